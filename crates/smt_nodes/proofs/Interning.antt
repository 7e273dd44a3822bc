-- What nodes of terms stand for, by what their parts stand for.
use Rattle.std.proofs.Common.{◌≡◌, ℕ, ◌+◌, ◌<◌, List, [], ◌∷◌, ◌++◌, get_or, length, map, take, true, refl, sym, ap, ◌∙◌}
use Rattle.std.proofs.lemmas.List.{append_assoc, map-append}
use Rattle.std.specs.Bool.{then_some}
use Rattle.std.specs.Prelude.{Result, Ok, Err, IfOk, Option, Some, option_and_then, option_map}
use Rattle.law_terms.specs.Plain.{PlainFunction, PlainType, OptionType, RecordType, SetType, AttributeTypes, PlainFields, PlainLiteral, PlainTerm, Application, NoneTerm, LiteralTerm, RecordTerm, SetTerm, SomeTerm, UufOp, VariableTerm, terms}
use Rattle.law_terms.specs.TermOrder.{term_cmp}
use Rattle.law_terms.specs.Types.{field_types, literal_type, type_eq, type_of}
use Rattle.law_terms.specs.ValueOrder.{ascends, text_cmp}
use Rattle.law_terms.proofs.TermTotal.{types_decided}
use Rattle.law_terms.specs.Meanings.{all_found, attributes_in, fields_in, found, meaning_at, meanings, only_if, stands_for, terms_in, typed_as}
use Rattle.law_terms.specs.Parts.{field_names, field_terms, types_in, attribute_names}
use Rattle.law_terms.specs.Nodes.{RecordLabel, CallLabel, NoneLabel, LiteralLabel, RecordOfLabel, SetOfLabel, SomeLabel, VariableLabel, PlainNode, Meaning, TypeMeaning, FunctionMeaning, TermMeaning}
use Rattle.law_terms.proofs.Places.{map_back, some_same, test_back, then_back}
use Rattle.law_terms.proofs.Whole.{typed_back}
use Rattle.smt_term.specs.View.{plain_op}
use Rattle.std.specs.declared.alloc.Global.{Global}
use Rattle.std.specs.declared.rc.Rc.{Rc}
use Rattle.smt_term.specs.declared.function.Uuf.{Uuf as Function}
use Rattle.smt_term.specs.declared.op.Op.{Op}
use Rattle.smt_term.specs.declared.op.Op.TheVariants.{And, Uuf}
use Rattle.smt_nodes.proofs.RecordParts.{Listing, attributes_round, fields_round, listed-take}
use Rattle.smt_nodes.specs.View.{place_of, places_of, plain_label}
use Rattle.smt_nodes.specs.declared.id.NodeId.{NodeId}
use Rattle.smt_nodes.specs.declared.node.Label.TheVariants.{App}

-- ---- what is found stays so
abbrev Keeps : List PlainNode → List PlainNode → Type 0
Keeps ns ks = (id : NodeId) (m : Meaning) → meaning_at ns (place_of id) ≡ Some m → meaning_at ks (place_of id) ≡ Some m

pub all_kept : (ns ks : List PlainNode) → Keeps ns ks → (ids : List NodeId) (ps : List Meaning) → all_found (meanings ns) (places_of ids) ≡ Some ps → all_found (meanings ks) (places_of ids) ≡ Some ps
all_kept ns ks k [] ps h = h
all_kept ns ks k (i ∷ ids) ps h =
    let (m, e, d) = then_back (λ m. option_map (λ rest. m ∷ rest) (all_found (meanings ns) (places_of ids))) (found (meanings ns) (place_of i)) ps h in
    let (rest, f, g) = map_back (λ rest. m ∷ rest) (all_found (meanings ns) (places_of ids)) ps d in
    ap (option_and_then (λ m. option_map (λ rest. m ∷ rest) (all_found (meanings ks) (places_of ids)))) (k i m e) ∙ (ap (option_map (λ rest. m ∷ rest)) (all_kept ns ks k ids rest f) ∙ ap Some g)

pub one_found : (ns : List PlainNode) (i : NodeId) (m : Meaning) → meaning_at ns (place_of i) ≡ Some m → all_found (meanings ns) (places_of (i ∷ [])) ≡ Some (m ∷ [])
one_found ns i m h = ap (option_and_then (λ m. Some (m ∷ []))) h

pub two_found : (ns : List PlainNode) (i j : NodeId) (m n : Meaning) → meaning_at ns (place_of i) ≡ Some m → meaning_at ns (place_of j) ≡ Some n → all_found (meanings ns) (places_of (i ∷ j ∷ [])) ≡ Some (m ∷ n ∷ [])
two_found ns i j m n h k =
    ap (option_and_then (λ m. option_map (λ rest. m ∷ rest) (all_found (meanings ns) (places_of (j ∷ []))))) h ∙ ap (option_map (λ rest. m ∷ rest)) (one_found ns j n k)

pub more_found : (ms : List (Option Meaning)) (is : List ℕ) (ps : List Meaning) (i : ℕ) (m : Meaning) → all_found ms is ≡ Some ps → found ms i ≡ Some m → all_found ms (is ++ i ∷ []) ≡ Some (ps ++ m ∷ [])
more_found ms [] ps i m h k = ap (option_and_then (λ m. Some (m ∷ []))) k ∙ ap (λ ps. Some (ps ++ m ∷ [])) (some_same [] ps h)
more_found ms (j ∷ is) ps i m h k =
    let (n, e, d) = then_back (λ m. option_map (λ rest. m ∷ rest) (all_found ms is)) (found ms j) ps h in
    let (rest, f, g) = map_back (λ rest. n ∷ rest) (all_found ms is) ps d in
    ap (option_and_then (λ m. option_map (λ rest. m ∷ rest) (all_found ms (is ++ i ∷ [])))) e ∙ (ap (option_map (λ rest. n ∷ rest)) (more_found ms is rest i m f k) ∙ ap (λ ps. Some (ps ++ m ∷ [])) g)

pub both_ok : {T E : Type 0} (P Q R : T → Type 0) (r : Result T E) → ((x : T) → P x → Q x → R x) → IfOk r P → IfOk r Q → IfOk r R
both_ok P Q R (Ok x) f p q = f x p q
both_ok P Q R (Err e) f p q = tt

-- ---- labels at the meanings of their parts
pub are_terms_in : (ts : List PlainTerm) → terms_in (map TermMeaning ts) ≡ Some ts
are_terms_in [] = refl
are_terms_in (t ∷ ts) = ap (option_map (λ ts. t ∷ ts)) (are_terms_in ts)

same_type : (t : PlainType) → type_eq t t ≡ true
same_type t = (types_decided t t).1 refl

typed_right : (u : PlainTerm) (t : PlainType) → type_of u ≡ t → typed_as t u ≡ Some (TermMeaning u)
typed_right u t e = ap (λ b. then_some b (TermMeaning u)) ((types_decided (type_of u) t).1 e)

made_app : (o : Op) → ((f : Rc Function Global) → ¬ (o ≡ Uuf f)) → (t : PlainType) (ts : List PlainTerm) → stands_for (plain_label (App o)) (TypeMeaning t ∷ map TermMeaning ts) ≡ option_and_then (typed_as t) (option_map (λ ts. Application (plain_op o) (terms ts) t) (terms_in (map TermMeaning ts)))
made_app (Uuf f) n t ts = absurd (n f refl)
made_app And n t ts = refl
made_app o n t ts = refl

pub app_means : (o : Op) → ((f : Rc Function Global) → ¬ (o ≡ Uuf f)) → (t : PlainType) (ts : List PlainTerm) → stands_for (plain_label (App o)) (TypeMeaning t ∷ map TermMeaning ts) ≡ Some (TermMeaning (Application (plain_op o) (terms ts) t))
app_means o n t ts =
    made_app o n t ts ∙ (ap (λ x. option_and_then (typed_as t) (option_map (λ ts. Application (plain_op o) (terms ts) t) x)) (are_terms_in ts) ∙ typed_right (Application (plain_op o) (terms ts) t) t refl)

pub call_means : (f : PlainFunction) (t : PlainType) (ts : List PlainTerm) → stands_for CallLabel (TypeMeaning t ∷ FunctionMeaning f ∷ map TermMeaning ts) ≡ Some (TermMeaning (Application (UufOp f) (terms ts) t))
call_means f t ts =
    ap (λ x. option_and_then (typed_as t) (option_map (λ ts. Application (UufOp f) (terms ts) t) x)) (are_terms_in ts) ∙ typed_right (Application (UufOp f) (terms ts) t) t refl

pub none_means : (t : PlainType) → stands_for NoneLabel (TypeMeaning (OptionType t) ∷ []) ≡ Some (TermMeaning (NoneTerm t))
none_means t = typed_right (NoneTerm t) (OptionType t) refl

pub literal_means : (l : PlainLiteral) → stands_for (LiteralLabel l) (TypeMeaning (literal_type l) ∷ []) ≡ Some (TermMeaning (LiteralTerm l))
literal_means l = typed_right (LiteralTerm l) (literal_type l) refl

pub some_means : (u : PlainTerm) → stands_for SomeLabel (TypeMeaning (OptionType (type_of u)) ∷ TermMeaning u ∷ []) ≡ Some (TermMeaning (SomeTerm u))
some_means u = typed_right (SomeTerm u) (OptionType (type_of u)) refl

pub variable_means : (id : List ℕ) (t : PlainType) → stands_for (VariableLabel id) (TypeMeaning t ∷ []) ≡ Some (TermMeaning (VariableTerm id t))
variable_means id t = typed_right (VariableTerm id t) t refl

pub set_means : (t : PlainType) (ts : List PlainTerm) (m : Meaning) → stands_for SetOfLabel (TypeMeaning (SetType t) ∷ map TermMeaning ts) ≡ Some m → Some (TermMeaning (SetTerm t (terms ts))) ≡ Some m
set_means t ts m h =
    let (u, e, s, k) = typed_back SetOfLabel (SetType t) (map TermMeaning ts) m h in
    let made : then_some (ascends term_cmp ts) (SetTerm t (terms ts)) ≡ Some u = sym (ap (option_and_then (λ ts. then_some (ascends term_cmp ts) (SetTerm t (terms ts)))) (are_terms_in ts)) ∙ e in
    let (b, c) = test_back (ascends term_cmp ts) (SetTerm t (terms ts)) u made in
    ap (λ u. Some (TermMeaning u)) c ∙ ap Some k

pub record_type_means : (x : AttributeTypes) → ascends text_cmp (attribute_names x) ≡ true → stands_for (RecordLabel (attribute_names x)) (types_in x) ≡ Some (TypeMeaning (RecordType x))
record_type_means x h =
    ap (λ b. only_if b (option_map (λ x. TypeMeaning (RecordType x)) (attributes_in (attribute_names x) (types_in x)))) h ∙ ap (option_map (λ x. TypeMeaning (RecordType x))) (attributes_round x)

pub record_means : (x : PlainFields) → ascends text_cmp (field_names x) ≡ true → stands_for (RecordOfLabel (field_names x)) (TypeMeaning (RecordType (field_types x)) ∷ field_terms x) ≡ Some (TermMeaning (RecordTerm x))
record_means x h =
    ap (option_and_then (typed_as (RecordType (field_types x)))) (ap (λ b. only_if b (option_map RecordTerm (fields_in (field_names x) (field_terms x)))) h ∙ ap (option_map RecordTerm) (fields_round x)) ∙ typed_right (RecordTerm x) (RecordType (field_types x)) refl

-- one number more, for the next item
pub pushed : {X : Type 0} {f : X → Meaning} {g : List X → List Meaning} → Listing f g → (ns : List PlainNode) (parts more : List NodeId) (part : NodeId) (ms : List Meaning) (xs : List X) (i : ℕ) (x : X) → more ≡ parts ++ part ∷ []
    → all_found (meanings ns) (places_of parts) ≡ Some (ms ++ g (take i xs)) → meaning_at ns (place_of part) ≡ Some (f x) → i < length xs → x ≡ get_or xs i x
    → all_found (meanings ns) (places_of more) ≡ Some (ms ++ g (take (i + 1) xs))
pushed {f = f} {g = g} w ns parts more part ms xs i x e h k b s =
    ap (all_found (meanings ns)) (ap places_of e ∙ map-append place_of parts (part ∷ [])) ∙ (more_found (meanings ns) (places_of parts) _ (place_of part) (f x) h k ∙ (ap Some (append_assoc ms (g (take i xs)) (f x ∷ [])) ∙ ap (λ l. Some (ms ++ l)) (sym (listed-take w xs i x b s))))
