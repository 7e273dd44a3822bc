-- A typed term that is formed and has no fault is fine.
use Rattle.std.proofs.Common.{bytes_eq, ◌≡◌, ℕ, ◌≤◌, Bool, true, false, ◌&&◌, List, [], ◌∷◌, refl, ap, ◌∙◌, sym, subst, inl, inr}
use Rattle.std.specs.Prelude.{◌⊎◌, Option, Some, None}
use Rattle.std.specs.Cmp.{first_so, second_so}
use Rattle.std.specs.List.{AllByRecursion, list_all, list_any}
use Rattle.std.specs.Option.{is_some, option_or}
use Rattle.std.proofs.lemmas.Bool.{le-leb}
use Rattle.law_terms.specs.Plain.{PlainType, OptionType, BitVecType, BoolType, EntityType, ExtensionType, RecordType, SetType, AttributeTypes, no_attributes, attribute, ExtensionOp, DatetimeOfBitVecOp, DatetimeValOp, DecimalValOp, DurationOfBitVecOp, DurationValOp, IpAddrV4Op, IpAddrV6Op, IpIsV4Op, IpPrefixV4Op, IpPrefixV6Op, PlainOp, AndOp, BvnegoOp, ExtOp, RecordGetOp, StringLikeOp, UufOp, PlainLiteral, EntityLiteral, StringLiteral, PlainTerm, Application, NoneTerm, LiteralTerm, RecordTerm, SetTerm, SomeTerm, VariableTerm, PlainTerms, no_terms, one_term, PlainFields, no_fields, one_field, terms}
use Rattle.law_numbers.specs.Widths.{is_width}
use Rattle.law_terms.specs.Faults.{Fault, fault_unless, is_string, is_pattern_part, entity_fault, entity_type_fault, literal_fault, is_passed_over, type_fault, attribute_types_fault, operator_fault, term_fault, terms_fault, fields_fault, first_fault}
use Rattle.law_terms.specs.Formed.{IsFormedHere, IsFormedType}
use Rattle.law_terms.specs.Reached.{subterms, subterms_of_all, subterms_of_fields, types_within, types_within_attributes}
use Rattle.law_terms.specs.Types.{type_eq, type_of, field_types, types_of, is_bits, attribute_type, extension_signature, result_type, is_type}
use Rattle.law_terms.specs.Typing.{are_elements, typed, typed_all, typed_fields, AreBoolean}
use Rattle.law_terms.proofs.Soundness.{all-front, all-back, all-last, none-first, none-second, not-passed, is_type-some, walked, chosen}
use Rattle.law_terms.proofs.TypeOrder.{eq_same}
use Rattle.law_terms.specs.TypeValues.{Enums, members_of}
use Rattle.law_lines.specs.Lines.{least_rendering, negation_rendering}
use Rattle.law_lines.specs.Encodable.{HasMember, HasArgument, IsEncodableType, AreEncodableTypes, IsEncodableId, IsEncodableLiteral, kind_of_op, IsLeast, IsEncodableOp, IsEncodable, AreEncodable, AreEncodableFields}
use Rattle.law_theorem.specs.Conditions.{FormedTypesAreEncodable, TypedTermsAreEncodable, TypedListsAreEncodable, AreConditions}
use Rattle.law_theorem.proofs.Agree.{places_found, attributes_found}

-- ---- tests

so : (b : Bool) (f : Fault) → fault_unless b f ≡ None → b ≡ true
so true f h = refl
so false f h = cc

-- ---- types

is_width_so : (n : ℕ) → (1 ≤ n) × (n ≤ 128) → is_width n ≡ true
is_width_so n h = λ i. le-leb 1 n h.0 i && le-leb n 128 h.1 i

has_member : (e : List ℕ) (o : Option (List (List ℕ))) → entity_type_fault e o ≡ None → HasMember o
has_member e None h = tt
has_member e (Some []) h = cc
has_member e (Some (m ∷ ms)) h = tt

module _ (enums : Enums) where
  mutual
    pub fine_type : (t : PlainType) → type_fault enums t ≡ None → AllByRecursion IsFormedHere (types_within t) → IsEncodableType enums t
    fine_type (OptionType t) f h = fine_type t f (all-front IsFormedHere (types_within t) (OptionType t ∷ []) h)
    fine_type (BitVecType n) f h = is_width_so n h.0
    fine_type (EntityType e) f h = has_member e (members_of enums e) f
    fine_type (RecordType x) f h = fine_types x f (all-front IsFormedHere (types_within_attributes x) (RecordType x ∷ []) h)
    fine_type (SetType t) f h = fine_type t f (all-front IsFormedHere (types_within t) (SetType t ∷ []) h)
    fine_type t f h = tt

    fine_types : (x : AttributeTypes) → attribute_types_fault enums x ≡ None → AllByRecursion IsFormedHere (types_within_attributes x) → AreEncodableTypes enums x
    fine_types no_attributes f h = tt
    fine_types (attribute a t x) f h = (
      fine_type t (none-first (type_fault enums t) (attribute_types_fault enums x) f) (all-front IsFormedHere (types_within t) (types_within_attributes x) h),
      fine_types x (none-second (type_fault enums t) (attribute_types_fault enums x) f) (all-back IsFormedHere (types_within t) (types_within_attributes x) h),
    )

abbrev pub HasFormedType : PlainTerm → Type 0
HasFormedType t = IsFormedType (type_of t)

own_type : (t : PlainTerm) → AllByRecursion HasFormedType (subterms t) → IsFormedType (type_of t)
own_type (Application o ts t) h = all-last HasFormedType (subterms_of_all ts) (Application o ts t) h
own_type (NoneTerm t) h = h.0
own_type (LiteralTerm l) h = h.0
own_type (RecordTerm fs) h = all-last HasFormedType (subterms_of_fields fs) (RecordTerm fs) h
own_type (SetTerm t ts) h = all-last HasFormedType (subterms_of_all ts) (SetTerm t ts) h
own_type (SomeTerm t) h = all-last HasFormedType (subterms t) (SomeTerm t) h
own_type (VariableTerm id t) h = h.0

pub fine_own : (enums : Enums) (t : PlainTerm) → type_fault enums (type_of t) ≡ None → AllByRecursion HasFormedType (subterms t) → IsEncodableType enums (type_of t)
fine_own enums t f h = fine_type enums (type_of t) f (own_type t h)

-- the types of arguments
abbrev HaveFormedTypes : PlainTerms → Type 0
HaveFormedTypes no_terms = Unit {0}
HaveFormedTypes (one_term t ts) = IsFormedType (type_of t) × HaveFormedTypes ts

formed_arguments : (ts : PlainTerms) → AllByRecursion HasFormedType (subterms_of_all ts) → HaveFormedTypes ts
formed_arguments no_terms h = tt
formed_arguments (one_term t ts) h =
    (own_type t (all-front HasFormedType (subterms t) (subterms_of_all ts) h), formed_arguments ts (all-back HasFormedType (subterms t) (subterms_of_all ts) h))

-- ---- literals

fine_id : (e i : List ℕ) (members : Option (List (List ℕ))) → entity_fault e i members ≡ None → IsEncodableId members i
fine_id e i None h = so (is_string i) _ h
fine_id e i (Some ms) h = places_found i ms ∙ so (list_any (bytes_eq i) ms) _ h

fine_literal : (enums : Enums) (l : PlainLiteral) → literal_fault enums l ≡ None → IsEncodableLiteral enums l
fine_literal enums (EntityLiteral e i) h = fine_id e i (members_of enums e) h
fine_literal enums (StringLiteral s) h = so (is_string s) _ h
fine_literal enums l h = tt

-- ---- operators

least_of : (u : PlainType) → is_bits u ≡ true → IsLeast (least_rendering u)
least_of (BitVecType n) h = tt
least_of u h = cc

fine_extension : (x : ExtensionOp) (a : PlainType) (ty : PlainType) → a ≡ (extension_signature x).0 → (extension_signature x).1 ≡ ty
    → (a ≡ ExtensionType (kind_of_op x)) ⊎ (ty ≡ ExtensionType (kind_of_op x))
fine_extension DatetimeOfBitVecOp a ty h g = inr (sym g)
fine_extension DatetimeValOp a ty h g = inl h
fine_extension DecimalValOp a ty h g = inl h
fine_extension DurationOfBitVecOp a ty h g = inr (sym g)
fine_extension DurationValOp a ty h g = inl h
fine_extension IpAddrV4Op a ty h g = inl h
fine_extension IpAddrV6Op a ty h g = inl h
fine_extension IpIsV4Op a ty h g = inl h
fine_extension IpPrefixV4Op a ty h g = inl h
fine_extension IpPrefixV6Op a ty h g = inl h

fine_get : (enums : Enums) (x : List ℕ) (t : PlainTerm) (u ty : PlainType) → attribute_type x u ≡ Some ty → type_of t ≡ u → IsEncodableOp enums (RecordGetOp x) (one_term t no_terms) ty
fine_get enums x t (RecordType attributes) ty h e = (attributes, e, attributes_found x attributes ∙ ap is_some h)
fine_get enums x t u ty h e = cc

fine_op : (enums : Enums) (o : PlainOp) (ts : PlainTerms) (ty : PlainType) → result_type o (types_of ts) ≡ Some ty → operator_fault enums o (types_of ts) ≡ None → HaveFormedTypes ts → IsFormedType ty → IsEncodableOp enums o ts ty
fine_op enums BvnegoOp no_terms ty h f k g = cc
fine_op enums BvnegoOp (one_term a no_terms) ty h f k g =
    let e : (is_bits (type_of a) ≡ true) × (BoolType ≡ ty) = chosen (is_bits (type_of a)) BoolType ty h in
    subst (λ x. IsLeast (negation_rendering (one_term a no_terms) x)) e.1 (least_of (type_of a) e.0)
fine_op enums BvnegoOp (one_term a (one_term b ts)) ty h f k g = cc
fine_op enums (ExtOp x) no_terms ty h f k g = cc
fine_op enums (ExtOp x) (one_term a no_terms) ty h f k g =
    let e : (type_eq (type_of a) (extension_signature x).0 ≡ true) × ((extension_signature x).1 ≡ ty) = chosen (type_eq (type_of a) (extension_signature x).0) (extension_signature x).1 ty h in
    fine_extension x (type_of a) ty (eq_same (type_of a) (extension_signature x).0 e.0) e.1
fine_op enums (ExtOp x) (one_term a (one_term b ts)) ty h f k g = cc
fine_op enums (RecordGetOp x) no_terms ty h f k g = cc
fine_op enums (RecordGetOp x) (one_term a no_terms) ty h f k g = fine_get enums x a (type_of a) ty h refl
fine_op enums (RecordGetOp x) (one_term a (one_term b ts)) ty h f k g = cc
fine_op enums (StringLikeOp p) no_terms ty h f k g = cc
fine_op enums (StringLikeOp p) (one_term a no_terms) ty h f k g = (tt, so (list_all is_pattern_part p) _ f)
fine_op enums (StringLikeOp p) (one_term a (one_term b ts)) ty h f k g = cc
fine_op enums (UufOp fn) no_terms ty h f k g = cc
fine_op enums (UufOp fn) (one_term a no_terms) ty h f k g =
    let e : (type_eq (type_of a) fn.argument ≡ true) × (fn.output ≡ ty) = chosen (type_eq (type_of a) fn.argument) fn.output ty h in (
      fine_type enums fn.argument (none-first (type_fault enums fn.argument) (type_fault enums fn.output) f) (subst IsFormedType (eq_same (type_of a) fn.argument e.0) k.0),
      fine_type enums fn.output (none-second (type_fault enums fn.argument) (type_fault enums fn.output) f) (subst IsFormedType (sym e.1) g),
    )
fine_op enums (UufOp fn) (one_term a (one_term b ts)) ty h f k g = cc
fine_op enums o ts ty h f k g = tt

-- no operator has a result without arguments
none_without : (o : PlainOp) (ty : PlainType) → result_type o [] ≡ Some ty → ⊥
none_without AndOp ty h = cc
none_without o ty h = cc

has_argument : (o : PlainOp) (ts : PlainTerms) (ty : PlainType) → result_type o (types_of ts) ≡ Some ty → HasArgument ts
has_argument o no_terms ty h = none_without o ty h
has_argument o (one_term t ts) ty h = tt

-- ---- terms

-- the type of a typed term without fault has none
pub no_type_fault : (enums : Enums) (t : PlainTerm) → typed t ≡ true → term_fault enums t ≡ None → type_fault enums (type_of t) ≡ None
no_type_fault enums (Application o ts t) h f =
    let r : result_type o (types_of ts) ≡ Some t = is_type-some (result_type o (types_of ts)) t (second_so (typed_all ts) (is_type (result_type o (types_of ts)) t) h) in
    none-first (type_fault enums t) (option_or (terms_fault enums ts) (operator_fault enums o (types_of ts))) (not-passed (is_passed_over o (types_of ts) t) _ (walked enums o (types_of ts) t r) f)
no_type_fault enums (NoneTerm t) h f = f
no_type_fault enums (LiteralTerm l) h f = none-first (type_fault enums (type_of (LiteralTerm l))) (literal_fault enums l) f
no_type_fault enums (RecordTerm fs) h f = none-first (type_fault enums (RecordType (field_types fs))) (fields_fault enums fs) f
no_type_fault enums (SetTerm t ts) h f = none-first (type_fault enums t) (terms_fault enums ts) f
no_type_fault enums (SomeTerm t) h f = none-first (type_fault enums (type_of t)) (term_fault enums t) f
no_type_fault enums (VariableTerm id t) h f = f

module _ (enums : Enums) where
  mutual
    pub fine : (t : PlainTerm) → typed t ≡ true → term_fault enums t ≡ None → AllByRecursion HasFormedType (subterms t) → IsEncodable enums t
    fine (Application o ts t) h f w =
        let r : result_type o (types_of ts) ≡ Some t = is_type-some (result_type o (types_of ts)) t (second_so (typed_all ts) (is_type (result_type o (types_of ts)) t) h) in
        let e : option_or (type_fault enums t) (option_or (terms_fault enums ts) (operator_fault enums o (types_of ts))) ≡ None = not-passed (is_passed_over o (types_of ts) t) _ (walked enums o (types_of ts) t r) f in
        let d : option_or (terms_fault enums ts) (operator_fault enums o (types_of ts)) ≡ None = none-second (type_fault enums t) _ e in
        let v : AllByRecursion HasFormedType (subterms_of_all ts) = all-front HasFormedType (subterms_of_all ts) (Application o ts t ∷ []) w in
        let g : IsFormedType t = own_type (Application o ts t) w in (
          fine_type enums t (none-first (type_fault enums t) _ e) g,
          fine_all ts (first_so (typed_all ts) (is_type (result_type o (types_of ts)) t) h) (none-first (terms_fault enums ts) (operator_fault enums o (types_of ts)) d) v,
          fine_op enums o ts t r (none-second (terms_fault enums ts) (operator_fault enums o (types_of ts)) d) (formed_arguments ts v) g,
          has_argument o ts t r,
        )
    fine (NoneTerm t) h f w = fine_own enums (NoneTerm t) f w
    fine (LiteralTerm l) h f w = fine_literal enums l (none-second (type_fault enums (type_of (LiteralTerm l))) (literal_fault enums l) f)
    fine (RecordTerm fs) h f w = (
      fine_own enums (RecordTerm fs) (none-first (type_fault enums (RecordType (field_types fs))) (fields_fault enums fs) f) w,
      fine_fields fs h (none-second (type_fault enums (RecordType (field_types fs))) (fields_fault enums fs) f) (all-front HasFormedType (subterms_of_fields fs) (RecordTerm fs ∷ []) w),
    )
    fine (SetTerm t ts) h f w = (
      fine_own enums (SetTerm t ts) (none-first (type_fault enums t) (terms_fault enums ts) f) w,
      fine_all ts (first_so (typed_all ts) (are_elements t ts) h) (none-second (type_fault enums t) (terms_fault enums ts) f) (all-front HasFormedType (subterms_of_all ts) (SetTerm t ts ∷ []) w),
    )
    fine (SomeTerm t) h f w = (
      fine_own enums t (none-first (type_fault enums (type_of t)) (term_fault enums t) f) (all-front HasFormedType (subterms t) (SomeTerm t ∷ []) w),
      fine t h (none-second (type_fault enums (type_of t)) (term_fault enums t) f) (all-front HasFormedType (subterms t) (SomeTerm t ∷ []) w),
    )
    fine (VariableTerm id t) h f w = fine_own enums (VariableTerm id t) f w

    fine_all : (ts : PlainTerms) → typed_all ts ≡ true → terms_fault enums ts ≡ None → AllByRecursion HasFormedType (subterms_of_all ts) → AreEncodable enums ts
    fine_all no_terms h f w = tt
    fine_all (one_term t ts) h f w = (
      fine t (first_so (typed t) (typed_all ts) h) (none-first (term_fault enums t) (terms_fault enums ts) f) (all-front HasFormedType (subterms t) (subterms_of_all ts) w),
      fine_all ts (second_so (typed t) (typed_all ts) h) (none-second (term_fault enums t) (terms_fault enums ts) f) (all-back HasFormedType (subterms t) (subterms_of_all ts) w),
    )

    fine_fields : (fs : PlainFields) → typed_fields fs ≡ true → fields_fault enums fs ≡ None → AllByRecursion HasFormedType (subterms_of_fields fs) → AreEncodableFields enums fs
    fine_fields no_fields h f w = tt
    fine_fields (one_field a t fs) h f w = (
      fine t (first_so (typed t) (typed_fields fs) h) (none-first (term_fault enums t) (fields_fault enums fs) f) (all-front HasFormedType (subterms t) (subterms_of_fields fs) w),
      fine_fields fs (second_so (typed t) (typed_fields fs) h) (none-second (term_fault enums t) (fields_fault enums fs) f) (all-back HasFormedType (subterms t) (subterms_of_fields fs) w),
    )

pub types_are_fine : FormedTypesAreEncodable
types_are_fine enums t f h = fine_type enums t f h

pub typed_terms_are_fine : TypedTermsAreEncodable
typed_terms_are_fine enums t h w f = fine enums t h (none-first (term_fault enums t) None f) w.types

pub typed_lists_are_fine : TypedListsAreEncodable
typed_lists_are_fine enums [] h w f = tt
typed_lists_are_fine enums (t ∷ ts) h w f = (
  fine enums t h.0 (none-first (term_fault enums t) (first_fault enums ts) f) w.0.types,
  typed_lists_are_fine enums ts h.1 w.1 (none-second (term_fault enums t) (first_fault enums ts) f),
)

pub parts_typed : (ts : List PlainTerm) → AreBoolean ts → AllByRecursion (λ t. typed t ≡ true) ts
parts_typed [] h = tt
parts_typed (t ∷ ts) h = (h.0.parts, parts_typed ts h.1)

pub conditions_are_fine : (enums : Enums) (ts : List PlainTerm) → AreConditions enums ts → AreEncodable enums (terms ts)
conditions_are_fine enums ts h = typed_lists_are_fine enums ts (parts_typed ts h.are_typed) h.are_formed h.have_no_fault
