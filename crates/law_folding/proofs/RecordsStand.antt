-- The folding of an attribute of a record stands for it.
use Rattle.std.proofs.Common.{◌≡◌, ℕ, Bool, true, false, ◌&&◌, List, [], ◌∷◌, refl, ap, ◌∙◌, sym, subst}
use Rattle.std.specs.Prelude.{bytes_eq, option_map, IfSome, Option, Some, None}
use Rattle.std.specs.Cmp.{first_so, second_so}
use Rattle.std.specs.Cmp.Derive.{both_true}
use Rattle.std.specs.List.{AllByRecursion}
use Rattle.std.specs.Option.{option_map_or, unwrap_or}
use Rattle.std.specs.Ordering.{is_eq}
use Rattle.law_folding.specs.Applications.{record_get_of, type_at}
use Rattle.law_folding.specs.FoldRecords.{field_in, folded_record_get}
use Rattle.law_folding.specs.Refinement.{Refines}
use Rattle.law_folding.proofs.ConnectivesStand.{argument}
use Rattle.law_folding.proofs.Records.{HasFormedType}
use Rattle.law_folding.proofs.Standing.{itself, standing, valued}
use Rattle.law_terms.specs.Formed.{IsFormedNode}
use Rattle.law_terms.specs.Meaning.{field_meanings, meaning, term_value}
use Rattle.law_terms.specs.Operators.{attribute_value, field_value}
use Rattle.law_terms.specs.Plain.{PlainType, RecordType, RecordGetOp, PlainTerm, RecordTerm, PlainFields, no_fields, one_field}
use Rattle.law_terms.specs.Reached.{subterms, subterms_of_fields}
use Rattle.law_terms.specs.Tables.{Interpretation}
use Rattle.law_terms.specs.Types.{attribute_in, attribute_type, field_types, is_type, type_eq, type_of}
use Rattle.law_terms.specs.Typing.{Typed, typed, typed_fields}
use Rattle.law_terms.specs.Values.{BoolValue}
use Rattle.law_terms.proofs.Soundness.{all-back, all-front}
use Rattle.law_terms.proofs.TypeOrder.{type_itself}

module _ (x : List ℕ) where
  -- ---- the term of an attribute

  -- what holds of each subterm of fields, and that they are typed, holds of it
  pub field_within : (P : PlainTerm → Type 0) (fs : PlainFields) → AllByRecursion P (subterms_of_fields fs) → IfSome (field_in x fs) (λ t. AllByRecursion P (subterms t))
  field_within P no_fields h = tt
  field_within P (one_field a t fs) h = by (bytes_eq x a) (field_within P fs (all-back P (subterms t) (subterms_of_fields fs) h))
    where
      by : (b : Bool) → IfSome (field_in x fs) (λ u. AllByRecursion P (subterms u)) → IfSome (elim b [ true ↦ Some t | false ↦ field_in x fs ]) (λ u. AllByRecursion P (subterms u))
      by true rest = all-front P (subterms t) (subterms_of_fields fs) h
      by false rest = rest

  field_typed : (fs : PlainFields) → typed_fields fs ≡ true → IfSome (field_in x fs) (λ t. typed t ≡ true)
  field_typed no_fields h = tt
  field_typed (one_field a t fs) h = by (bytes_eq x a) (field_typed fs (second_so (typed t) (typed_fields fs) h))
    where
      by : (b : Bool) → IfSome (field_in x fs) (λ u. typed u ≡ true) → IfSome (elim b [ true ↦ Some t | false ↦ field_in x fs ]) (λ u. typed u ≡ true)
      by true rest = first_so (typed t) (typed_fields fs) h
      by false rest = rest

  -- its type and its value
  pub type_found : (fs : PlainFields) → attribute_in x (field_types fs) ≡ option_map type_of (field_in x fs)
  type_found no_fields = refl
  type_found (one_field a t fs) = by (bytes_eq x a) (type_found fs)
    where
      by : (b : Bool) → attribute_in x (field_types fs) ≡ option_map type_of (field_in x fs) → (elim b [ true ↦ Some (type_of t) | false ↦ attribute_in x (field_types fs) ]) ≡ option_map type_of (elim b [ true ↦ Some t | false ↦ field_in x fs ])
      by true rest = refl
      by false rest = rest

  pub value_found : (I : Interpretation) (fs : PlainFields) → field_value x (field_meanings I fs) ≡ option_map_or (meaning I) (field_in x fs) (BoolValue false)
  value_found I no_fields = refl
  value_found I (one_field a t fs) = by (bytes_eq x a) (value_found I fs)
    where
      by : (b : Bool) → field_value x (field_meanings I fs) ≡ option_map_or (meaning I) (field_in x fs) (BoolValue false) → (elim b [ true ↦ meaning I t | false ↦ field_value x (field_meanings I fs) ]) ≡ option_map_or (meaning I) (elim b [ true ↦ Some t | false ↦ field_in x fs ]) (BoolValue false)
      by true rest = refl
      by false rest = rest

  -- ---- what it stands for

  parts_typed : (t : PlainTerm) → typed (record_get_of t x) ≡ true → typed t ≡ true
  parts_typed t h = first_so (typed t) true (first_so (typed t && true) (is_type (attribute_type x (type_of t)) (type_at x (type_of t))) h)

  module _ (fs : PlainFields) (t : PlainTerm) (e : field_in x fs ≡ Some t) where
    within : (P : PlainTerm → Type 0) → AllByRecursion P (subterms (record_get_of (RecordTerm fs) x)) → AllByRecursion P (subterms t)
    within P h =
        subst (λ o. IfSome o (λ u. AllByRecursion P (subterms u))) e (field_within P fs (all-front P (subterms_of_fields fs) (RecordTerm fs ∷ []) (argument P (RecordGetOp x) (RecordTerm fs) (type_at x (type_of (RecordTerm fs))) h)))

    found_typed : typed_fields fs ≡ true → typed t ≡ true
    found_typed h = subst (λ o. IfSome o (λ u. typed u ≡ true)) e (field_typed fs h)

    found_type : attribute_in x (field_types fs) ≡ Some (type_of t)
    found_type = type_found fs ∙ ap (option_map type_of) e

    found_meaning : (I : Interpretation) → field_value x (field_meanings I fs) ≡ meaning I t
    found_meaning I = value_found I fs ∙ ap (λ o. option_map_or (meaning I) o (BoolValue false)) e

    field_stands : Refines t (record_get_of (RecordTerm fs) x)
    field_stands =
        standing t (record_get_of (RecordTerm fs) x) (λ P q h. within P h) (λ f. record { literals = within IsFormedNode f.literals; types = within HasFormedType f.types })
        (λ h. (found_typed (parts_typed (RecordTerm fs) h), sym (ap (λ o. unwrap_or o (RecordType (field_types fs))) found_type))) (λ enums I h f g. sym (found_meaning I))

  no_attribute : (t : PlainTerm) → attribute_type x (type_of t) ≡ None → Refines t (record_get_of t x)
  no_attribute t e =
      standing t (record_get_of t x) (λ P q h. argument P (RecordGetOp x) t (type_at x (type_of t)) h)
      (λ f. record { literals = argument IsFormedNode (RecordGetOp x) t (type_at x (type_of t)) f.literals; types = argument HasFormedType (RecordGetOp x) t (type_at x (type_of t)) f.types }) (λ h. absurd (never h)) (λ enums I h f g. absurd (never h))
    where
      never : typed (record_get_of t x) ≡ true → ⊥
      never h = let k : false ≡ true = sym (ap (λ o. is_type o (type_at x (type_of t))) e) ∙ second_so (typed t && true) (is_type (attribute_type x (type_of t)) (type_at x (type_of t))) h in cc

  by_field : (fs : PlainFields) (o : Option PlainTerm) → field_in x fs ≡ o → Refines (unwrap_or o (RecordTerm fs)) (record_get_of (RecordTerm fs) x)
  by_field fs (Some t) e = field_stands fs t e
  by_field fs None e = no_attribute (RecordTerm fs) (type_found fs ∙ ap (option_map type_of) e)

  by_type : (t : PlainTerm) (o : Option PlainType) → attribute_type x (type_of t) ≡ o → Refines (elim o [ Some ty ↦ record_get_of t x | None ↦ t ]) (record_get_of t x)
  by_type t (Some ty) e = itself (record_get_of t x)
  by_type t None e = no_attribute t e

pub stands_record_get : (t : PlainTerm) (x : List ℕ) → Refines (folded_record_get t x) (record_get_of t x)
stands_record_get (RecordTerm fs) x = by_field x fs (field_in x fs) refl
stands_record_get t x = by_type x t (attribute_type x (type_of t)) refl

-- ---- what it gives, where a typed term has the attribute

module _ (t : PlainTerm) (x : List ℕ) (ty : PlainType) (h : typed t ≡ true) (e : attribute_type x (type_of t) ≡ Some ty) where
  asked_type : type_at x (type_of t) ≡ ty
  asked_type = ap (λ o. unwrap_or o (type_of t)) e

  asked_typed : typed (record_get_of t x) ≡ true
  asked_typed = both_true (both_true h refl) (ap (λ o. is_type o (type_at x (type_of t))) e ∙ (ap (type_eq ty) asked_type ∙ ap is_eq (type_itself ty)))

  pub record_get_typed : Typed (folded_record_get t x) ty
  record_get_typed = (stands_record_get t x).type ty (record { parts = asked_typed; type = asked_type })

  asked_value : (I : Interpretation) → term_value I (record_get_of t x) ≡ attribute_value x (term_value I t)
  asked_value I = valued I (record_get_of t x) asked_typed ∙ ap (attribute_value x) (sym (valued I t h))

field_valued : (I : Interpretation) (x : List ℕ) (fs : PlainFields) (ty : PlainType) → typed_fields fs ≡ true → attribute_in x (field_types fs) ≡ Some ty → (o : Option PlainTerm) → field_in x fs ≡ o
    → term_value I (unwrap_or o (RecordTerm fs)) ≡ attribute_value x (term_value I (RecordTerm fs))
field_valued I x fs ty h e (Some t) d = valued I t (found_typed x fs t d h) ∙ (sym (found_meaning x fs t d I) ∙ ap (attribute_value x) (sym (valued I (RecordTerm fs) h)))
field_valued I x fs ty h e None d = let k : None ≡ Some ty = sym (type_found x fs ∙ ap (option_map type_of) d) ∙ e in cc

other_valued : (I : Interpretation) (t : PlainTerm) (x : List ℕ) (ty : PlainType) → typed t ≡ true → attribute_type x (type_of t) ≡ Some ty → (o : Option PlainType) → attribute_type x (type_of t) ≡ o
    → term_value I (elim o [ Some u ↦ record_get_of t x | None ↦ t ]) ≡ attribute_value x (term_value I t)
other_valued I t x ty h e (Some u) d = asked_value t x ty h e I
other_valued I t x ty h e None d = let k : None ≡ Some ty = sym d ∙ e in cc

pub record_get_valued : (I : Interpretation) (t : PlainTerm) (x : List ℕ) (ty : PlainType) → typed t ≡ true → attribute_type x (type_of t) ≡ Some ty → term_value I (folded_record_get t x) ≡ attribute_value x (term_value I t)
record_get_valued I (RecordTerm fs) x ty h e = field_valued I x fs ty h e (field_in x fs) refl
record_get_valued I t x ty h e = other_valued I t x ty h e (attribute_type x (type_of t)) refl
