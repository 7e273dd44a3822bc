-- A node fits exactly where it has a meaning.
use Rattle.std.proofs.Common.{◌≡◌, ℕ, ◌<◌, List, [], ◌∷◌, length, refl, sym, ap, ◌∙◌, arith, subst}
use Rattle.std.specs.Bool.{then_some}
use Rattle.std.specs.List.{list_all}
use Rattle.std.specs.Prelude.{Bool, true, false, ◌&&◌, nat_lt, Option, Some, None, is_some, unwrap_or, option_and_then, option_map}
use Rattle.law_terms.specs.Plain.{PlainType, OptionType, RecordType, SetType, attribute, UufOp, PlainTerm, Application, NoneTerm, LiteralTerm, RecordTerm, SetTerm, SomeTerm, VariableTerm, PlainFields, one_field, terms}
use Rattle.law_terms.specs.TermOrder.{term_cmp}
use Rattle.law_terms.specs.Types.{field_types, literal_type, type_eq, type_of}
use Rattle.law_terms.specs.ValueOrder.{ascends, text_cmp}
use Rattle.law_terms.proofs.TermTotal.{types_decided}
use Rattle.law_terms.specs.Fits.{fits, fits_parts, is_term, is_type, same_length}
use Rattle.law_terms.specs.Meanings.{all_found, attributes_in, fields_in, found, meaning_of, meanings, only_if, stands_for, terms_in, typed_as}
use Rattle.law_terms.specs.Nodes.{PlainLabel, OptionLabel, BitVecLabel, BoolLabel, EntityLabel, ExtensionLabel, StringLabel, RecordLabel, SetLabel, FunctionLabel, ApplicationLabel, CallLabel, NoneLabel, LiteralLabel, RecordOfLabel, SetOfLabel, SomeLabel, VariableLabel, PlainNode, Meaning, TypeMeaning, FunctionMeaning, TermMeaning}
use Rattle.law_terms.proofs.Places.{as_many, found_within, map_back, then_back}

same_type : (t : PlainType) → type_eq t t ≡ true
same_type t = (types_decided t t).1 refl

mapped : {A B : Type 0} (f : A → B) (o : Option A) → is_some (option_map f o) ≡ is_some o
mapped f None = refl
mapped f (Some x) = refl

tested : {A : Type 0} (b : Bool) (x : A) → is_some (then_some b x) ≡ b
tested true x = refl
tested false x = refl

and_false : (b : Bool) → (b && false) ≡ false
and_false true = refl
and_false false = refl

pub are_terms : (ms : List Meaning) → is_some (terms_in ms) ≡ list_all is_term ms
are_terms [] = refl
are_terms (TermMeaning t ∷ ms) = mapped (λ ts. t ∷ ts) (terms_in ms) ∙ are_terms ms
are_terms ms = refl

have_types : (names : List (List ℕ)) (ms : List Meaning) → is_some (attributes_in names ms) ≡ (list_all is_type ms && same_length names ms)
have_types [] [] = refl
have_types [] (m ∷ ms) = sym (and_false (list_all is_type (m ∷ ms)))
have_types (a ∷ names) (TypeMeaning t ∷ ms) = mapped (attribute a t) (attributes_in names ms) ∙ have_types names ms
have_types (a ∷ names) ms = refl

have_terms : (names : List (List ℕ)) (ms : List Meaning) → is_some (fields_in names ms) ≡ (list_all is_term ms && same_length names ms)
have_terms [] [] = refl
have_terms [] (m ∷ ms) = sym (and_false (list_all is_term (m ∷ ms)))
have_terms (a ∷ names) (TermMeaning t ∷ ms) = mapped (one_field a t) (fields_in names ms) ∙ have_terms names ms
have_terms (a ∷ names) ms = refl

-- ---- the tests of a label, where some of them hold
abbrev all_five : Bool → Bool → Bool → Bool → Bool → Bool
all_five k t a e f = k && t && a && e && f

first_alone : (k : Bool) → k ≡ all_five k true true true true
first_alone true = refl
first_alone false = refl

second_alone : (t : Bool) → t ≡ all_five true t true true true
second_alone true = refl
second_alone false = refl

last_fails : (k t a e : Bool) → false ≡ all_five k t a e false
last_fails k t a e = sym (and_false (k && t && a && e))

second_fails : (k a e f : Bool) → false ≡ all_five k false a e f
second_fails true a e f = refl
second_fails false a e f = refl

-- the attributes of a record type
attributes_fit : {A B : Type 0} (f : A → B) (a k : Bool) (o : Option A) → is_some o ≡ k → is_some (only_if a (option_map f o)) ≡ all_five k true a true true
attributes_fit f true k None h = subst (λ k. false ≡ all_five k true true true true) h refl
attributes_fit f true k (Some x) h = subst (λ k. true ≡ all_five k true true true true) h refl
attributes_fit f false k o h = elim k as (λ k. false ≡ all_five k true false true true) [ true ↦ refl | false ↦ refl ]

-- a term of the claimed type
claimed_fits : (t : PlainType) (f : List PlainTerm → PlainTerm) → ((ts : List PlainTerm) → type_of (f ts) ≡ t) → (k : Bool) (o : Option (List PlainTerm)) → is_some o ≡ k → is_some (option_and_then (typed_as t) (option_map f o)) ≡ all_five k true true true true
claimed_fits t f e k None h = h ∙ first_alone k
claimed_fits t f e k (Some ts) h = tested (type_eq (type_of (f ts)) t) (TermMeaning (f ts)) ∙ ((types_decided (type_of (f ts)) t).1 (e ts) ∙ (h ∙ first_alone k))

-- the fields of a record
abbrev record_test : PlainType → Option PlainFields → Bool
record_test t o = elim o [ None ↦ false | Some fs ↦ type_eq (RecordType (field_types fs)) t ]

record_fits : (t : PlainType) (a k : Bool) (o : Option PlainFields) → is_some o ≡ k → is_some (option_and_then (typed_as t) (only_if a (option_map RecordTerm o))) ≡ all_five k (record_test t o) a true true
record_fits t true k None h = second_fails k true true true
record_fits t false k None h = second_fails k false true true
record_fits t true k (Some fs) h = tested (type_eq (RecordType (field_types fs)) t) (TermMeaning (RecordTerm fs)) ∙ (second_alone (type_eq (RecordType (field_types fs)) t) ∙ ap (λ k. all_five k (type_eq (RecordType (field_types fs)) t) true true true) h)
record_fits t false k (Some fs) h = sym (ap (λ b. b && true && true) (and_false (k && type_eq (RecordType (field_types fs)) t)))

-- the elements of a set
set_made_fits : (t : PlainType) (ts : List PlainTerm) (b : Bool) → is_some (option_and_then (typed_as (SetType t)) (then_some b (SetTerm t (terms ts)))) ≡ all_five true true true b true
set_made_fits t ts true = tested (type_eq (SetType t) (SetType t)) (TermMeaning (SetTerm t (terms ts))) ∙ same_type (SetType t)
set_made_fits t ts false = refl

set_fits : (t : PlainType) (k : Bool) (o : Option (List PlainTerm)) → is_some o ≡ k → is_some (option_and_then (typed_as (SetType t)) (option_and_then (λ ts. then_some (ascends term_cmp ts) (SetTerm t (terms ts))) o)) ≡ all_five k true true (ascends term_cmp (unwrap_or o [])) true
set_fits t k None h = h ∙ first_alone k
set_fits t k (Some ts) h = set_made_fits t ts (ascends term_cmp ts) ∙ ap (λ k. all_five k true true (ascends term_cmp ts) true) h

pub parts_fit : (l : PlainLabel) (ms : List Meaning) → is_some (stands_for l ms) ≡ fits_parts l ms
parts_fit OptionLabel (TypeMeaning t ∷ []) = refl
parts_fit (BitVecLabel n) [] = refl
parts_fit BoolLabel [] = refl
parts_fit (EntityLabel e) [] = refl
parts_fit (ExtensionLabel k) [] = refl
parts_fit StringLabel [] = refl
parts_fit (RecordLabel names) ms = attributes_fit (λ x. TypeMeaning (RecordType x)) (ascends text_cmp names) _ (attributes_in names ms) (have_types names ms)
parts_fit SetLabel (TypeMeaning t ∷ []) = refl
parts_fit (FunctionLabel id) (TypeMeaning t ∷ TypeMeaning u ∷ []) = refl
parts_fit (ApplicationLabel (UufOp f)) (TypeMeaning t ∷ ms) = last_fails (list_all is_term ms) true true true
parts_fit (ApplicationLabel o) (TypeMeaning t ∷ ms) = claimed_fits t (λ ts. Application o (terms ts) t) (λ ts. refl) _ (terms_in ms) (are_terms ms)
parts_fit CallLabel (TypeMeaning t ∷ FunctionMeaning f ∷ ms) = claimed_fits t (λ ts. Application (UufOp f) (terms ts) t) (λ ts. refl) _ (terms_in ms) (are_terms ms)
parts_fit NoneLabel (TypeMeaning (OptionType t) ∷ []) = tested (type_eq (OptionType t) (OptionType t)) (TermMeaning (NoneTerm t)) ∙ same_type (OptionType t)
parts_fit NoneLabel (TypeMeaning t ∷ []) = refl
parts_fit NoneLabel (TypeMeaning t ∷ m ∷ ms) = refl
parts_fit (LiteralLabel l) (TypeMeaning t ∷ []) = tested (type_eq (literal_type l) t) (TermMeaning (LiteralTerm l)) ∙ second_alone (type_eq (literal_type l) t)
parts_fit (RecordOfLabel names) (TypeMeaning t ∷ ms) = record_fits t (ascends text_cmp names) _ (fields_in names ms) (have_terms names ms)
parts_fit SetOfLabel (TypeMeaning (SetType t) ∷ ms) = set_fits t _ (terms_in ms) (are_terms ms)
parts_fit SetOfLabel (TypeMeaning t ∷ ms) = second_fails (list_all is_term ms) true (ascends term_cmp (unwrap_or (terms_in ms) [])) true
parts_fit SomeLabel (TypeMeaning t ∷ TermMeaning u ∷ []) = tested (type_eq (OptionType (type_of u)) t) (TermMeaning (SomeTerm u)) ∙ second_alone (type_eq (OptionType (type_of u)) t)
parts_fit (VariableLabel id) (TypeMeaning t ∷ []) = tested (type_eq t t) (TermMeaning (VariableTerm id t)) ∙ same_type t
parts_fit l (TypeMeaning t ∷ ms) = refl
parts_fit l ms = refl

nat_lt_from : (i n : ℕ) → i < n → nat_lt i n ≡ true
nat_lt_from i n h = grind arith

-- what stands for something stands before
below : (ns : List PlainNode) (is : List ℕ) (ms : List Meaning) → all_found (meanings ns) is ≡ Some ms → list_all (λ i. nat_lt i (length ns)) is ≡ true
below ns [] ms h = refl
below ns (i ∷ is) ms h =
    let (m, e, d) = then_back (λ m. option_map (λ rest. m ∷ rest) (all_found (meanings ns) is)) (found (meanings ns) i) ms h in
    let (rest, f, g) = map_back (λ rest. m ∷ rest) (all_found (meanings ns) is) ms d in
    let b : i < length (meanings ns) = found_within (meanings ns) i m e in
    let c : nat_lt i (length ns) ≡ true = nat_lt_from i (length ns) (omega (arith, as_many ns)) in
    ap (λ x. x && list_all (λ i. nat_lt i (length ns)) is) c ∙ below ns is rest f

by_parts : (ns : List PlainNode) (n : PlainNode) (o : Option (List Meaning)) → all_found (meanings ns) n.parts ≡ o → is_some (option_and_then (stands_for n.label) o) ≡ (list_all (λ i. nat_lt i (length ns)) n.parts && elim o [ None ↦ false | Some ms ↦ fits_parts n.label ms ])
by_parts ns n None e = sym (and_false (list_all (λ i. nat_lt i (length ns)) n.parts))
by_parts ns n (Some ms) e = parts_fit n.label ms ∙ sym (ap (λ b. b && fits_parts n.label ms) (below ns n.parts ms e))

pub fitting : (ns : List PlainNode) (n : PlainNode) → is_some (meaning_of (meanings ns) n) ≡ fits ns n
fitting ns n = by_parts ns n (all_found (meanings ns) n.parts) refl
