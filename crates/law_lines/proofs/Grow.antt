use Rattle.std.proofs.Common.{◌≡◌, ℕ, suc, ◌+◌, ◌≤◌, true, false, List, [], ◌∷◌, ◌++◌, length, refl, subst, arith, Option, Some, None}
use Rattle.std.specs.Prelude.{Bool, cond}
use Rattle.std.specs.Map.{lookup}
use Rattle.std.proofs.lemmas.List.{append-nil, append_assoc, length-append}
use Rattle.law_terms.specs.Plain.{PlainType, OptionType, BitVecType, BoolType, EntityType, ExtensionType, StringType, RecordType, SetType, AttributeTypes, no_attributes, attribute, PlainFunction, PlainOp, UufOp, ExtensionKind, PlainLiteral, BitVecLiteral, BoolLiteral, EntityLiteral, ExtensionLiteral, StringLiteral, PlainTerm, Application, NoneTerm, LiteralTerm, RecordTerm, SetTerm, SomeTerm, VariableTerm, PlainTerms, no_terms, one_term, PlainFields, no_fields, one_field}
use Rattle.law_terms.specs.TypeValues.{Enums, members_of}
use Rattle.law_terms.specs.Types.{kind_of, type_of, field_types}
use Rattle.law_texts.specs.Reading.{Expression}
use Rattle.law_lines.specs.Line.{Line, Comment, DeclareDatatype, DeclareConst, DeclareFun, DefineFun, Assert, Push, Pop}
use Rattle.law_lines.specs.LineForms.{entity_lines}
use Rattle.law_lines.specs.EntryNames.{stated_type_name, stated_function_name}
use Rattle.law_lines.specs.Lines.{Written, unless_named, define, define_entity, encode_type, encode_attributes, encode_function, encode_literal, encode_head, encode_term, encode_terms, encode_fields, define_application, Rendering, AsApplication, AsEqualsIntMin, AsFalse, application_rendering, declare_kind, declare_record, next_function, next_term, enter_type, enter_function, enter_term, next_entity}
use Rattle.law_lines.specs.NameTables.{Tables}
use Rattle.law_lines.specs.Entries.{AreNumbered}
use Rattle.law_lines.specs.TableGrowth.{datatypes, declared_functions, definitions, is_drawn, AreDrawn, Extends, Grown, NamesStay}

-- ---- counts and numbers of joined lists

datatypes_append : (ls ms : List Line) → datatypes (ls ++ ms) ≡ datatypes ls + datatypes ms
datatypes_append [] ms = omega arith
datatypes_append (Comment x ∷ ls) ms = datatypes_append ls ms
datatypes_append (DeclareDatatype n ps cs ∷ ls) ms = let h = datatypes_append ls ms in omega arith
datatypes_append (DeclareConst n x ∷ ls) ms = datatypes_append ls ms
datatypes_append (DeclareFun n x y ∷ ls) ms = datatypes_append ls ms
datatypes_append (DefineFun n x y ∷ ls) ms = datatypes_append ls ms
datatypes_append (Assert x ∷ ls) ms = datatypes_append ls ms
datatypes_append (Push ∷ ls) ms = datatypes_append ls ms
datatypes_append (Pop ∷ ls) ms = datatypes_append ls ms

declared_append : (ls ms : List Line) → declared_functions (ls ++ ms) ≡ declared_functions ls + declared_functions ms
declared_append [] ms = omega arith
declared_append (Comment x ∷ ls) ms = declared_append ls ms
declared_append (DeclareDatatype n ps cs ∷ ls) ms = declared_append ls ms
declared_append (DeclareConst n x ∷ ls) ms = declared_append ls ms
declared_append (DeclareFun n x y ∷ ls) ms = let h = declared_append ls ms in omega arith
declared_append (DefineFun n x y ∷ ls) ms = declared_append ls ms
declared_append (Assert x ∷ ls) ms = declared_append ls ms
declared_append (Push ∷ ls) ms = declared_append ls ms
declared_append (Pop ∷ ls) ms = declared_append ls ms

definitions_append : (ls ms : List Line) → definitions (ls ++ ms) ≡ definitions ls + definitions ms
definitions_append [] ms = omega arith
definitions_append (Comment x ∷ ls) ms = definitions_append ls ms
definitions_append (DeclareDatatype n ps cs ∷ ls) ms = definitions_append ls ms
definitions_append (DeclareConst n x ∷ ls) ms = let h = definitions_append ls ms in omega arith
definitions_append (DeclareFun n x y ∷ ls) ms = definitions_append ls ms
definitions_append (DefineFun n x y ∷ ls) ms = let h = definitions_append ls ms in omega arith
definitions_append (Assert x ∷ ls) ms = definitions_append ls ms
definitions_append (Push ∷ ls) ms = definitions_append ls ms
definitions_append (Pop ∷ ls) ms = definitions_append ls ms

numbered_append : {K : Type 0} (f : K → ℕ → List ℕ) (place : ℕ) (xs ys : List (K × List ℕ))
    → AreNumbered f place xs → AreNumbered f (place + length xs) ys → AreNumbered f place (xs ++ ys)
numbered_append f place [] ys h k = let e : place + 0 ≡ place = omega arith in rw e at k
numbered_append f place (x ∷ xs) ys h k =
    let e : place + suc (length xs) ≡ suc place + length xs = omega arith in
    (h.0, numbered_append f (suc place) xs ys h.1 (subst (λ p. AreNumbered f p ys) e k))

drawn_append : (enums : Enums) (place : ℕ) (xs ys : List (PlainTerm × List ℕ))
    → AreDrawn enums place xs → AreDrawn enums (place + length xs) ys → AreDrawn enums place (xs ++ ys)
drawn_append enums place [] ys h k = let e : place + 0 ≡ place = omega arith in rw e at k
drawn_append enums place (x ∷ xs) ys h k =
    let e : place + suc (length xs) ≡ suc place + length xs = omega arith in
    (h.0, drawn_append enums (suc place) xs ys h.1 (subst (λ p. AreDrawn enums p ys) e k))

-- ---- steps one after the other

pub stays : (enums : Enums) (s : Tables) → Extends enums s [] s
stays enums s = record {
  new_types = [];
  types = rw append-nil;
  type_names = tt;
  type_lines = refl;
  new_functions = [];
  functions = rw append-nil;
  function_names = tt;
  function_lines = refl;
  new_terms = [];
  terms = rw append-nil;
  term_names = tt;
  term_lines = omega arith;
}

pub goes_on : (enums : Enums) (s : Tables) (ls : List Line) (u : Tables) (ms : List Line) (v : Tables)
    → Extends enums s ls u → Extends enums u ms v → Extends enums s (ls ++ ms) v
goes_on enums s ls u ms v a b = record {
  new_types = a.new_types ++ b.new_types;
  types = rw (b.types, a.types, append_assoc);
  type_names = numbered_append stated_type_name (length s.types) a.new_types b.new_types a.type_names
      (subst (λ p. AreNumbered stated_type_name p b.new_types) (rw (a.types, length-append)) b.type_names);
  type_lines = rw (datatypes_append, length-append, a.type_lines, b.type_lines);
  new_functions = a.new_functions ++ b.new_functions;
  functions = rw (b.functions, a.functions, append_assoc);
  function_names = numbered_append (λ f place. stated_function_name place) (length s.functions) a.new_functions b.new_functions a.function_names
      (subst (λ p. AreNumbered (λ f place. stated_function_name place) p b.new_functions) (rw (a.functions, length-append)) b.function_names);
  function_lines = rw (declared_append, length-append, a.function_lines, b.function_lines);
  new_terms = a.new_terms ++ b.new_terms;
  terms = rw (b.terms, a.terms, append_assoc);
  term_names = drawn_append enums (length s.terms) a.new_terms b.new_terms a.term_names
      (subst (λ p. AreDrawn enums p b.new_terms) (rw (a.terms, length-append)) b.term_names);
  term_lines = let h = a.term_lines in let k = b.term_lines in let e = definitions_append ls ms in let f = length-append a.new_terms b.new_terms in omega arith;
}

-- one step and then another, where the goal says what they are
then : (enums : Enums) {s : Tables} {ls : List Line} {u : Tables} {ms : List Line} {v : Tables} → Extends enums s ls u → Extends enums u ms v → Extends enums s (ls ++ ms) v
then enums {s} {ls} {u} {ms} {v} a b = goes_on enums s ls u ms v a b

unless : (enums : Enums) (o : Option (List ℕ)) (s : Tables) (f : Tables → Written Expression)
    → ((u : Tables) → Grown enums u (f u)) → Grown enums s (unless_named o s f)
unless enums (Some n) s f h = stays enums s
unless enums None s f h = h s

-- ---- entries

enters_type : (enums : Enums) (t : PlainType) (n : List ℕ) (ls : List Line) (s : Tables)
    → n ≡ stated_type_name t (length s.types) → datatypes ls ≡ 1 → declared_functions ls ≡ 0 → definitions ls ≡ 0
    → Grown enums s (enter_type t n ls s)
enters_type enums t n ls s name one zero none = record {
  new_types = (t, n) ∷ [];
  types = refl;
  type_names = (name, tt);
  type_lines = one;
  new_functions = [];
  functions = rw append-nil;
  function_names = tt;
  function_lines = zero;
  new_terms = [];
  terms = rw append-nil;
  term_names = tt;
  term_lines = omega arith;
}

enters_function : (enums : Enums) (f : PlainFunction) (argument output : Expression) (s : Tables)
    → Grown enums s (enter_function f (next_function s) (DeclareFun (next_function s) argument output ∷ []) s)
enters_function enums f argument output s = record {
  new_types = [];
  types = rw append-nil;
  type_names = tt;
  type_lines = refl;
  new_functions = (f, next_function s) ∷ [];
  functions = refl;
  function_names = (refl, tt);
  function_lines = refl;
  new_terms = [];
  terms = rw append-nil;
  term_names = tt;
  term_lines = omega arith;
}

enters_term : (enums : Enums) (t : PlainTerm) (n : List ℕ) (ls : List Line) (s : Tables)
    → (is_drawn enums t ≡ true → n ≡ next_term s) → datatypes ls ≡ 0 → declared_functions ls ≡ 0 → definitions ls ≤ 1
    → Grown enums s (enter_term t n ls s)
enters_term enums t n ls s name zero none one = record {
  new_types = [];
  types = rw append-nil;
  type_names = tt;
  type_lines = zero;
  new_functions = [];
  functions = rw append-nil;
  function_names = tt;
  function_lines = none;
  new_terms = (t, n) ∷ [];
  terms = refl;
  term_names = (name, tt);
  term_lines = one;
}

defines : (enums : Enums) (t : PlainTerm) (sort body : Expression) (s : Tables) → Grown enums s (define t sort body s)
defines enums t sort body s = enters_term enums t (next_term s) (DefineFun (next_term s) sort body ∷ []) s (λ h. refl) refl refl (omega arith)

-- a comment first
comments : (enums : Enums) (text : List ℕ) (s : Tables) (ls : List Line) (u : Tables) → Extends enums s ls u → Extends enums s (Comment text ∷ ls) u
comments enums text s ls u h = record {
  new_types = h.new_types;
  types = h.types;
  type_names = h.type_names;
  type_lines = h.type_lines;
  new_functions = h.new_functions;
  functions = h.functions;
  function_names = h.function_names;
  function_lines = h.function_lines;
  new_terms = h.new_terms;
  terms = h.terms;
  term_names = h.term_names;
  term_lines = h.term_lines;
}

-- ---- types

entity_grows : (enums : Enums) (o : Option (List (List ℕ))) (type : List ℕ) (s : Tables)
    → Grown enums s (enter_type (EntityType type) (next_entity s) (entity_lines o type (next_entity s)) s)
entity_grows enums None type s = enters_type enums (EntityType type) (next_entity s) _ s refl refl refl refl
entity_grows enums (Some members) type s = enters_type enums (EntityType type) (next_entity s) _ s refl refl refl refl

kind_grows : (enums : Enums) (kind : ExtensionKind) (s : Tables) → Grown enums s (declare_kind kind s)
kind_grows enums kind s = enters_type enums (ExtensionType kind) _ _ s refl refl refl refl

record_grows : (enums : Enums) (attributes : AttributeTypes) (sorts : List Expression) (s : Tables) → Grown enums s (declare_record attributes sorts s)
record_grows enums attributes sorts s = enters_type enums (RecordType attributes) _ _ s refl refl refl refl

mutual
  pub type_grows : (enums : Enums) (t : PlainType) (s : Tables) → Grown enums s (encode_type enums t s)
  type_grows enums (OptionType t) s = then enums (type_grows enums t s) (stays enums _)
  type_grows enums (BitVecType width) s = stays enums s
  type_grows enums BoolType s = stays enums s
  type_grows enums (EntityType type) s = unless enums _ s _ (λ u. entity_grows enums (members_of enums type) type u)
  type_grows enums (ExtensionType kind) s = unless enums _ s _ (λ u. kind_grows enums kind u)
  type_grows enums StringType s = stays enums s
  type_grows enums (RecordType attributes) s = unless enums _ s _ (λ u. then enums (attributes_grow enums attributes u) (record_grows enums attributes _ _))
  type_grows enums (SetType t) s = then enums (type_grows enums t s) (stays enums _)

  pub attributes_grow : (enums : Enums) (x : AttributeTypes) (s : Tables) → Grown enums s (encode_attributes enums x s)
  attributes_grow enums no_attributes s = stays enums s
  attributes_grow enums (attribute a t x) s = then enums (type_grows enums t s) (then enums (attributes_grow enums x _) (stays enums _))

pub function_grows : (enums : Enums) (f : PlainFunction) (s : Tables) → Grown enums s (encode_function enums f s)
function_grows enums f s = unless enums _ s _
    (λ u. comments enums f.id u _ _ (then enums (type_grows enums f.argument u) (then enums (type_grows enums f.output _) (enters_function enums f _ _ _))))

-- ---- terms

entity_literal_grows : (enums : Enums) (o : Option (List (List ℕ))) (type id sort : List ℕ) (s : Tables) → members_of enums type ≡ o
    → Grown enums s (define_entity o type id sort s)
entity_literal_grows enums None type id sort s e = defines enums (LiteralTerm (EntityLiteral type id)) _ _ s
entity_literal_grows enums (Some members) type id sort s e =
    enters_term enums (LiteralTerm (EntityLiteral type id)) _ [] s (λ h. absurd (differ (rw e at h))) refl refl (omega arith)
  where
    differ : false ≡ true → ⊥
    differ h = cc

literal_grows : (enums : Enums) (p : PlainLiteral) (s : Tables) → Grown enums s (encode_literal enums p s)
literal_grows enums (BitVecLiteral width number) s = stays enums s
literal_grows enums (BoolLiteral b) s = stays enums s
literal_grows enums (EntityLiteral type id) s = unless enums _ s _
    (λ u. then enums (type_grows enums (EntityType type) u) (entity_literal_grows enums (members_of enums type) type id _ _ refl))
literal_grows enums (ExtensionLiteral x) s = unless enums _ s _
    (λ u. then enums (type_grows enums (ExtensionType (kind_of x)) u) (defines enums (LiteralTerm (ExtensionLiteral x)) _ _ _))
literal_grows enums (StringLiteral text) s = stays enums s

pub head_grows : (enums : Enums) (op : PlainOp) (ts : PlainTerms) (s : Tables) → Grown enums s (encode_head enums op ts s)
head_grows enums (UufOp f) ts s = function_grows enums f s
head_grows enums op ts s = stays enums s

application_grows : (enums : Enums) (m : Rendering) (op : PlainOp) (ts : PlainTerms) (type : PlainType) (arguments : Tables → Written (List Expression)) (sort : Expression) (s : Tables)
    → application_rendering op ts type ≡ m → ((u : Tables) → Grown enums u (arguments u))
    → Grown enums s (define_application enums m op ts type arguments sort s)
application_grows enums AsApplication op ts type arguments sort s e h =
    then enums (h s) (then enums (head_grows enums op ts _) (defines enums (Application op ts type) _ _ _))
application_grows enums (AsEqualsIntMin width) op ts type arguments sort s e h = then enums (h s) (defines enums (Application op ts type) _ _ _)
application_grows enums AsFalse op ts type arguments sort s e h =
    enters_term enums (Application op ts type) _ [] s (λ d. absurd (differ (rw e at d))) refl refl (omega arith)
  where
    differ : false ≡ true → ⊥
    differ d = cc

mutual
  pub term_grows : (enums : Enums) (t : PlainTerm) (s : Tables) → Grown enums s (encode_term enums t s)
  term_grows enums (Application op ts type) s = unless enums _ s _
      (λ u. then enums (type_grows enums type u)
      (application_grows enums (application_rendering op ts type) op ts type (λ w. encode_terms enums ts w) _ _ refl (λ w. terms_grow enums ts w)))
  term_grows enums (NoneTerm type) s = unless enums _ s _
      (λ u. then enums (type_grows enums (OptionType type) u) (defines enums (NoneTerm type) _ _ _))
  term_grows enums (LiteralTerm p) s = literal_grows enums p s
  term_grows enums (RecordTerm fields) s = unless enums _ s _
      (λ u. then enums (type_grows enums (RecordType (field_types fields)) u) (then enums (fields_grow enums fields _) (defines enums (RecordTerm fields) _ _ _)))
  term_grows enums (SetTerm element ts) s = unless enums _ s _
      (λ u. then enums (type_grows enums (SetType element) u) (then enums (terms_grow enums ts _) (defines enums (SetTerm element ts) _ _ _)))
  term_grows enums (SomeTerm t) s = unless enums _ s _
      (λ u. then enums (type_grows enums (OptionType (type_of t)) u) (then enums (term_grows enums t _) (defines enums (SomeTerm t) _ _ _)))
  term_grows enums (VariableTerm id type) s = unless enums _ s _
      (λ u. then enums (type_grows enums type u) (enters_term enums (VariableTerm id type) _ _ _ (λ h. refl) refl refl (omega arith)))

  pub terms_grow : (enums : Enums) (ts : PlainTerms) (s : Tables) → Grown enums s (encode_terms enums ts s)
  terms_grow enums no_terms s = stays enums s
  terms_grow enums (one_term t ts) s = then enums (term_grows enums t s) (then enums (terms_grow enums ts _) (stays enums _))

  pub fields_grow : (enums : Enums) (x : PlainFields) (s : Tables) → Grown enums s (encode_fields enums x s)
  fields_grow enums no_fields s = stays enums s
  fields_grow enums (one_field a t x) s = then enums (term_grows enums t s) (then enums (fields_grow enums x _) (stays enums _))

-- ---- names stay

pub lookup_append : {K X : Type 0} (test : K → Bool) (es fs : List (K × X)) (x : X) → lookup test es ≡ Some x → lookup test (es ++ fs) ≡ Some x
lookup_append test [] fs x h = absurd (none_is h)
  where
    none_is : None ≡ Some x → ⊥
    none_is h = cc
lookup_append test (e ∷ es) fs x h = go (test e.0) (λ k. lookup_append test es fs x k) h
  where
    go : (b : Bool) → (lookup test es ≡ Some x → lookup test (es ++ fs) ≡ Some x)
        → cond b (Some e.1) (lookup test es) ≡ Some x → cond b (Some e.1) (lookup test (es ++ fs)) ≡ Some x
    go true again k = k
    go false again k = again k

pub names_stay : NamesStay
names_stay enums s ls u h = record {
  terms = λ t n k. rw h.terms (lookup_append _ s.terms h.new_terms n k);
  types = λ t n k. rw h.types (lookup_append _ s.types h.new_types n k);
  functions = λ f n k. rw h.functions (lookup_append _ s.functions h.new_functions n k);
}
