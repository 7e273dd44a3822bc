-- That it is no Boolean is no fault of a term by itself: the terms that a step asserts have that fault.
use Rattle.std.proofs.Common.{◌≡◌, Result, subst, Bool, true, false, List, [], ◌∷◌, ◌++◌, Option, Some, None, Ok, Err, bytes_eq, codes, decimal, option_map}
use Rattle.std.specs.Bool.{then_some}
use Rattle.std.specs.List.{list_any}
use Rattle.std.specs.Option.{option_and_then}
use Rattle.std.specs.Prelude.{ℕ, ⊤, IfErr, if◌then◌else◌}
use Rattle.law_folding.specs.Built.{built}
use Rattle.law_terms.specs.Plain.{PlainTerm, PlainType, PlainLiteral}
use Rattle.law_terms.specs.TermSets.{set_term}
use Rattle.law_texts.specs.Lexicon.{Atom, Bits, Name, Number, Text}
use Rattle.law_texts.specs.Outcomes.{◌>>=◌, demanded}
use Rattle.law_texts.specs.Reading.{Expression, Leaf, Node, Expressions, Nil, Cons}
use Rattle.law_jobs.specs.Declarations.{Declared, declared}
use Rattle.law_jobs.specs.Outcomes.{JobFault, Outcome, followed, mapped, DuplicateFault, FormFault, LiteralFault, TruthFault, TypeFault, TypingFault, UnknownFault, WidthFault}
use Rattle.law_texts.specs.Parts.{both, first_in, name_in, number_in, sole, sole_text, text_in}
use Rattle.law_jobs.specs.Terms.{TermForm, Whole, Operator, OperatorBehind, Present, Elements, Fields, applied, are_of_type, atom_term, bits_form, bits_literal, datetime_literal, decimal_literal, duration_literal, entity_form, extension_by, extension_form, field_name, field_names, form_of, function_form, like_form, literal_form, long_literal, made, new_names, none_form, operator_form, operator_named, other_terms, parts_of, pattern_in, range_literal, record_form, second_terms, selection_form, set_form, some_form, term_of, terms_of, truth_named, variable_form, whole_literal}
use Rattle.law_jobs.specs.Types.{attributes_of, bits_type, entity_type, headed_type, new_attribute, new_name, sole_type, stated_record_type, type_named, type_of_expression, width_in}
use Rattle.smt_term.specs.View.{plain_term}
use Rattle.smt_term.specs.declared.term.Term.{Term}
use Rattle.smt_job_terms.specs.ReadAs.{IsFaultIn, IsReadAs}
use Rattle.smt_job_terms.specs.declared.error.JobError.{JobError}
use Rattle.smt_job_terms.specs.declared.error.JobError.TheVariants.{NotBool}
use Rattle.smt_job_terms.proofs.Reading.{mapped_fault}

-- a fault that a term can have by itself
abbrev pub IsOfTerms : JobFault → Type 0
IsOfTerms TruthFault = ⊥
IsOfTerms fault = ⊤

-- a fault that is stated is one that a term can have by itself
abbrev pub HasOwn : {A : Type 0} → Outcome A → Type 0
HasOwn (Ok a) = ⊤
HasOwn (Err fault) = IsOfTerms fault

next : {A B : Type 0} (o : Outcome A) (f : A → Outcome B) → HasOwn o → ((a : A) → HasOwn (f a)) → HasOwn (o >>= f)
next (Ok a) f h g = g a
next (Err fault) f h g = h

wanted : {A : Type 0} (fault : JobFault) (o : Option A) → IsOfTerms fault → HasOwn (demanded fault o)
wanted fault (Some a) h = tt
wanted fault None h = h

before : {A : Type 0} (a : A) (o : Outcome (List A)) → HasOwn o → HasOwn (followed a o)
before a (Ok rest) h = tt
before a (Err fault) h = h

choice : {A : Type 0} (b : Bool) (x y : Outcome A) → HasOwn x → HasOwn y → HasOwn (if b then x else y)
choice true x y h g = h
choice false x y h g = g

-- ---- types

name_own : (given : List (List ℕ)) (a : List ℕ) → HasOwn (new_name given a)
name_own given a = choice (list_any (bytes_eq a) given) (Err (DuplicateFault a)) (Ok a) tt tt

attribute_own : (given : List (List ℕ)) (e : Expression) → HasOwn (new_attribute given e)
attribute_own given e = next (demanded TypeFault (text_in e)) (new_name given) (wanted TypeFault (text_in e) tt) (name_own given)

bits_own : (es : Expressions) → HasOwn (bits_type es)
bits_own es = next (demanded TypeFault (sole es)) _ (wanted TypeFault (sole es) tt) (λ e. next (demanded WidthFault (width_in e)) _ (wanted WidthFault (width_in e) tt) (λ n. tt))

entity_own : (es : Expressions) → HasOwn (entity_type es)
entity_own es = next (demanded TypeFault (sole_text es)) _ (wanted TypeFault (sole_text es) tt) (λ n. tt)

headed_own : (n : List ℕ) (es : Expressions) (inner : Outcome PlainType) (attributes : Outcome (List (List ℕ × PlainType))) → HasOwn inner → HasOwn attributes → HasOwn (headed_type n es inner attributes)
headed_own n es inner attributes h g =
    choice (bytes_eq n (codes "BitVec")) _ _ (bits_own es)
    (choice (bytes_eq n (codes "Option")) _ _ (next inner _ h (λ t. tt))
    (choice (bytes_eq n (codes "Set")) _ _ (next inner _ h (λ t. tt))
    (choice (bytes_eq n (codes "Entity")) _ _ (entity_own es)
    (choice (bytes_eq n (codes "Record")) (stated_record_type attributes) (Err TypeFault) (next attributes _ g (λ ps. tt)) tt))))

mutual
  type_own : (e : Expression) → HasOwn (type_of_expression e)
  type_own (Leaf a) = wanted TypeFault (option_and_then type_named (name_in (Leaf a))) tt
  type_own (Node Nil) = tt
  type_own (Node (Cons head es)) = next (demanded TypeFault (name_in head)) _ (wanted TypeFault (name_in head) tt) (λ n. headed_own n es (sole_type es) (attributes_of [] es) (sole_own es) (attributes_own [] es))

  sole_own : (es : Expressions) → HasOwn (sole_type es)
  sole_own (Cons e Nil) = type_own e
  sole_own (Cons e (Cons f es)) = tt
  sole_own Nil = tt

  attributes_own : (given : List (List ℕ)) (es : Expressions) → HasOwn (attributes_of given es)
  attributes_own given Nil = tt
  attributes_own given (Cons (Node (Cons name (Cons type Nil))) es) =
      next (new_attribute given name) _ (attribute_own given name) (λ a. next (type_of_expression type) _ (type_own type) (λ t. before (a, t) (attributes_of (given ++ a ∷ []) es) (attributes_own (given ++ a ∷ []) es)))
  attributes_own given (Cons (Node (Cons name (Cons type (Cons e more)))) es) = tt
  attributes_own given (Cons (Node (Cons name Nil)) es) = tt
  attributes_own given (Cons (Node Nil) es) = tt
  attributes_own given (Cons (Leaf a) es) = tt

-- ---- forms

literal_own : (read : List ℕ → Option PlainLiteral) (es : Expressions) → HasOwn (literal_form read es)
literal_own read es = next (demanded FormFault (sole_text es)) _ (wanted FormFault (sole_text es) tt) (λ text. wanted (LiteralFault text) (option_map whole_literal (read text)) tt)

variable_own : (ds : Declared) (es : Expressions) → HasOwn (variable_form ds es)
variable_own ds es =
    next (demanded FormFault (sole_text es)) _ (wanted FormFault (sole_text es) tt) (λ id. next (demanded (UnknownFault id) (declared ds.variables id)) _ (wanted (UnknownFault id) (declared ds.variables id) tt) (λ t. tt))

bits_form_own : (es : Expressions) → HasOwn (bits_form es)
bits_form_own es =
    next (demanded FormFault (both es)) _ (wanted FormFault (both es) tt) (λ p. next (demanded FormFault (number_in p.1)) _ (wanted FormFault (number_in p.1) tt) (λ n.
    next (demanded WidthFault (width_in p.0)) _ (wanted WidthFault (width_in p.0) tt) (λ w. wanted (LiteralFault (decimal n)) (option_map Whole (bits_literal w n)) tt)))

entity_form_own : (es : Expressions) → HasOwn (entity_form es)
entity_form_own es =
    next (demanded FormFault (both es)) _ (wanted FormFault (both es) tt) (λ p. next (demanded FormFault (text_in p.0)) _ (wanted FormFault (text_in p.0) tt) (λ type.
    next (demanded FormFault (text_in p.1)) _ (wanted FormFault (text_in p.1) tt) (λ id. tt)))

none_own : (es : Expressions) → HasOwn (none_form es)
none_own es = next (demanded FormFault (sole es) >>= type_of_expression) _ (next (demanded FormFault (sole es)) type_of_expression (wanted FormFault (sole es) tt) type_own) (λ t. tt)

some_own : (es : Expressions) → HasOwn (some_form es)
some_own es = next (demanded FormFault (sole es)) _ (wanted FormFault (sole es) tt) (λ e. tt)

set_own : (es : Expressions) → HasOwn (set_form es)
set_own es = next (demanded FormFault (first_in es) >>= type_of_expression) _ (next (demanded FormFault (first_in es)) type_of_expression (wanted FormFault (first_in es) tt) type_own) (λ t. tt)

names_own : (given names : List (List ℕ)) → HasOwn (new_names given names)
names_own given [] = tt
names_own given (a ∷ names) = next (new_name given a) _ (name_own given a) (λ b. before b (new_names (given ++ a ∷ []) names) (names_own (given ++ a ∷ []) names))

fields_own : (es : Expressions) → HasOwn (field_names es)
fields_own Nil = tt
fields_own (Cons e es) = next (demanded FormFault (field_name e)) _ (wanted FormFault (field_name e) tt) (λ a. before a (field_names es) (fields_own es))

record_own : (es : Expressions) → HasOwn (record_form es)
record_own es = next (field_names es >>= new_names []) _ (next (field_names es) (new_names []) (fields_own es) (names_own [])) (λ names. tt)

extension_own : (es : Expressions) → HasOwn (extension_form es)
extension_own es =
    next (demanded FormFault (both es)) _ (wanted FormFault (both es) tt) (λ p. next (demanded WidthFault (option_and_then extension_by (number_in p.0))) _ (wanted WidthFault (option_and_then extension_by (number_in p.0)) tt) (λ o. tt))

selection_own : (es : Expressions) → HasOwn (selection_form es)
selection_own es = next (demanded FormFault (both es)) _ (wanted FormFault (both es) tt) (λ p. next (demanded FormFault (text_in p.0)) _ (wanted FormFault (text_in p.0) tt) (λ a. tt))

like_own : (es : Expressions) → HasOwn (like_form es)
like_own es = next (demanded FormFault (both es)) _ (wanted FormFault (both es) tt) (λ p. next (demanded FormFault (pattern_in p.0)) _ (wanted FormFault (pattern_in p.0) tt) (λ parts. tt))

function_own : (ds : Declared) (es : Expressions) → HasOwn (function_form ds es)
function_own ds es =
    next (demanded FormFault (both es)) _ (wanted FormFault (both es) tt) (λ p. next (demanded FormFault (text_in p.0)) _ (wanted FormFault (text_in p.0) tt) (λ id.
    next (demanded (UnknownFault id) (declared ds.functions id)) _ (wanted (UnknownFault id) (declared ds.functions id) tt) (λ f. tt)))

operator_own : (n : List ℕ) → HasOwn (operator_form n)
operator_own n = next (demanded (UnknownFault n) (operator_named n)) _ (wanted (UnknownFault n) (operator_named n) tt) (λ o. tt)

form_own : (ds : Declared) (n : List ℕ) (es : Expressions) → HasOwn (form_of ds n es)
form_own ds n es =
    choice (bytes_eq n (codes "var")) _ _ (variable_own ds es)
    (choice (bytes_eq n (codes "bv")) _ _ (bits_form_own es)
    (choice (bytes_eq n (codes "long")) _ _ (literal_own long_literal es)
    (choice (bytes_eq n (codes "entity")) _ _ (entity_form_own es)
    (choice (bytes_eq n (codes "decimal")) _ _ (literal_own decimal_literal es)
    (choice (bytes_eq n (codes "ip")) _ _ (literal_own range_literal es)
    (choice (bytes_eq n (codes "datetime")) _ _ (literal_own datetime_literal es)
    (choice (bytes_eq n (codes "duration")) _ _ (literal_own duration_literal es)
    (choice (bytes_eq n (codes "none")) _ _ (none_own es)
    (choice (bytes_eq n (codes "some")) _ _ (some_own es)
    (choice (bytes_eq n (codes "set")) _ _ (set_own es)
    (choice (bytes_eq n (codes "record")) _ _ (record_own es)
    (choice (bytes_eq n (codes "zero_extend")) _ _ (extension_own es)
    (choice (bytes_eq n (codes "record.get")) _ _ (selection_own es)
    (choice (bytes_eq n (codes "string.like")) _ _ (like_own es)
    (choice (bytes_eq n (codes "uuf")) _ _ (function_own ds es) (operator_own n))))))))))))))))

-- ---- terms

made_own : (form : TermForm) (us : List PlainTerm) → HasOwn (made form us)
made_own (Whole t) us = tt
made_own (Operator o) us = wanted TypingFault (applied o us) tt
made_own (OperatorBehind o) us = wanted TypingFault (applied o us) tt
made_own Present (u ∷ us) = tt
made_own Present [] = tt
made_own (Elements t) us = wanted TypingFault (then_some (are_of_type t us) (set_term t us)) tt
made_own (Fields names) us = tt

parts_own : (form : TermForm) (all others seconds : Outcome (List PlainTerm)) → HasOwn all → HasOwn others → HasOwn seconds → HasOwn (parts_of form all others seconds)
parts_own (Whole t) all others seconds h g f = tt
parts_own (Operator o) all others seconds h g f = h
parts_own (OperatorBehind o) all others seconds h g f = g
parts_own Present all others seconds h g f = h
parts_own (Elements t) all others seconds h g f = g
parts_own (Fields names) all others seconds h g f = f

atom_own : (a : Atom) → HasOwn (atom_term a)
atom_own (Name n) = wanted FormFault (truth_named n) tt
atom_own (Text points) = wanted FormFault _ tt
atom_own (Bits w n) = wanted FormFault (bits_literal w n) tt
atom_own (Number n) = tt

module _ (ds : Declared) where
  mutual
    term_own : (e : Expression) → HasOwn (term_of ds e)
    term_own (Leaf a) = atom_own a
    term_own (Node Nil) = tt
    term_own (Node (Cons head es)) =
        next (demanded FormFault (name_in head)) _ (wanted FormFault (name_in head) tt) (λ n. next (form_of ds n es) _ (form_own ds n es) (λ form.
        next (parts_of form (terms_of ds es) (other_terms ds es) (second_terms ds es)) (made form) (parts_own form (terms_of ds es) (other_terms ds es) (second_terms ds es) (terms_own es) (others_own es) (seconds_own es)) (made_own form)))

    terms_own : (es : Expressions) → HasOwn (terms_of ds es)
    terms_own Nil = tt
    terms_own (Cons e es) = next (term_of ds e) _ (term_own e) (λ t. before t (terms_of ds es) (terms_own es))

    others_own : (es : Expressions) → HasOwn (other_terms ds es)
    others_own Nil = tt
    others_own (Cons e es) = terms_own es

    seconds_own : (es : Expressions) → HasOwn (second_terms ds es)
    seconds_own Nil = tt
    seconds_own (Cons (Node (Cons name (Cons e Nil))) es) = next (term_of ds e) _ (term_own e) (λ t. before t (second_terms ds es) (seconds_own es))
    seconds_own (Cons (Node (Cons name (Cons e (Cons f more)))) es) = tt
    seconds_own (Cons (Node (Cons name Nil)) es) = tt
    seconds_own (Cons (Node Nil) es) = tt
    seconds_own (Cons (Leaf a) es) = tt

-- so reading a term never answers that it is no Boolean
pub not_boolean : (ds : Declared) (e : Expression) (r : Result Term JobError) → IsReadAs plain_term r (mapped built (term_of ds e)) → IfErr r (λ error. error ≡ NotBool → ⊥)
not_boolean ds e (Ok t) h = tt
not_boolean ds e (Err x) h = λ same. none (subst (λ (y : JobError). IsFaultIn y (mapped built (term_of ds e))) same h)
  where
    none : mapped built (term_of ds e) ≡ Err TruthFault → ⊥
    none stated = subst (λ (o : Outcome PlainTerm). HasOwn o) (mapped_fault built (term_of ds e) TruthFault stated) (term_own ds e)
