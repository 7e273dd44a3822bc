-- What conditions and their parts have: operators that take their arguments, and values of their types.
use Rattle.std.proofs.Common.{◌≡◌, true, List, [], ◌∷◌, Some, None}
use Rattle.std.specs.Cmp.{first_so, second_so}
use Rattle.std.specs.List.{AllByRecursion, list_all}
use Rattle.std.specs.Option.{option_or}
use Rattle.law_terms.specs.Plain.{PlainTerm, Application, NoneTerm, LiteralTerm, RecordTerm, SetTerm, SomeTerm, VariableTerm, PlainTerms, no_terms, one_term, PlainFields, no_fields, one_field, RecordType}
use Rattle.law_terms.specs.Faults.{is_passed_over, type_fault, literal_fault, operator_fault, term_fault, terms_fault, fields_fault, first_fault}
use Rattle.law_terms.specs.Formed.{IsFormedLiteral, IsFormedNode, IsFormed}
use Rattle.law_terms.specs.Interpretations.{IsGivenOp, IsGiven}
use Rattle.law_terms.specs.Meaning.{literal_value, meaning}
use Rattle.law_terms.specs.Reached.{subterms, subterms_of_all, subterms_of_fields, reached_terms}
use Rattle.law_terms.specs.Tables.{Interpretation}
use Rattle.law_terms.specs.Types.{type_eq, literal_type, type_of, field_types, types_of, result_type, is_type}
use Rattle.law_terms.specs.Typing.{are_elements, typed, typed_all, typed_fields}
use Rattle.law_terms.proofs.Elements.{typed_elements}
use Rattle.law_terms.specs.TypeValues.{Enums, IsValue}
use Rattle.law_terms.proofs.Soundness.{all-front, all-back, all-last, none-first, none-second, not-passed, is_type-some, walked, valued}
use Rattle.law_lines.specs.Encodable.{IsEncodableType, IsEncodableOp, IsEncodableLiteral, IsEncodable}
use Rattle.law_theorem.proofs.FineTerms.{no_type_fault, HasFormedType, fine, fine_own}

module _ (enums : Enums) (I : Interpretation) where
  abbrev mutual
    -- a term by which a script's value can be followed
    pub IsValued : PlainTerm → Type 0
    IsValued (Application o ts t) = AreValued ts × (result_type o (types_of ts) ≡ Some t) × IsGivenOp enums I o t × IsEncodableOp enums o ts t × IsEncodableType enums t
    IsValued (NoneTerm t) = Unit {0}
    IsValued (LiteralTerm l) = IsEncodableLiteral enums l × IsFormedLiteral l × IsValue enums (literal_type l) (literal_value l) × IsEncodableType enums (literal_type l)
    IsValued (RecordTerm fs) = HaveValues fs
    IsValued (SetTerm t ts) = AreValued ts × (list_all (type_eq t) (types_of ts) ≡ true)
    IsValued (SomeTerm t) = IsValued t
    IsValued (VariableTerm id t) = Unit {0}

    pub AreValued : PlainTerms → Type 0
    AreValued no_terms = Unit {0}
    AreValued (one_term t ts) = IsValued t × IsValue enums (type_of t) (meaning I t) × IsEncodableType enums (type_of t) × AreValued ts

    pub HaveValues : PlainFields → Type 0
    HaveValues no_fields = Unit {0}
    HaveValues (one_field a t fs) = IsValued t × HaveValues fs

  abbrev Formed : List PlainTerm → Type 0
  Formed ts = AllByRecursion IsFormedNode ts

  abbrev Given : List PlainTerm → Type 0
  Given ts = AllByRecursion (IsGiven enums I) ts

  abbrev AreTyped : List PlainTerm → Type 0
  AreTyped ts = AllByRecursion HasFormedType ts

  mutual
    pub is_valued : (t : PlainTerm) → typed t ≡ true → term_fault enums t ≡ None → Formed (subterms t) → AreTyped (subterms t) → Given (subterms t) → IsValued t
    is_valued (Application o ts t) h f w y g =
        let r : result_type o (types_of ts) ≡ Some t = is_type-some (result_type o (types_of ts)) t (second_so (typed_all ts) (is_type (result_type o (types_of ts)) t) h) in
        let e : option_or (type_fault enums t) (option_or (terms_fault enums ts) (operator_fault enums o (types_of ts))) ≡ None = not-passed (is_passed_over o (types_of ts) t) _ (walked enums o (types_of ts) t r) f in
        let d : option_or (terms_fault enums ts) (operator_fault enums o (types_of ts)) ≡ None = none-second (type_fault enums t) _ e in
        let k : IsEncodable enums (Application o ts t) = fine enums (Application o ts t) h f y in (
          are_valued ts (first_so (typed_all ts) (is_type (result_type o (types_of ts)) t) h) (none-first (terms_fault enums ts) (operator_fault enums o (types_of ts)) d)
              (all-front IsFormedNode (subterms_of_all ts) (Application o ts t ∷ []) w) (all-front HasFormedType (subterms_of_all ts) (Application o ts t ∷ []) y) (all-front (IsGiven enums I) (subterms_of_all ts) (Application o ts t ∷ []) g),
          r,
          all-last (IsGiven enums I) (subterms_of_all ts) (Application o ts t) g,
          k.2,
          k.0,
        )
    is_valued (NoneTerm t) h f w y g = tt
    is_valued (LiteralTerm l) h f w y g = (fine enums (LiteralTerm l) h f y, w.0, valued enums I (LiteralTerm l) h f w g, fine_own enums (LiteralTerm l) (none-first (type_fault enums (type_of (LiteralTerm l))) (literal_fault enums l) f) y)
    is_valued (RecordTerm fs) h f w y g =
        have_values fs h (none-second (type_fault enums (RecordType (field_types fs))) (fields_fault enums fs) f)
        (all-front IsFormedNode (subterms_of_fields fs) (RecordTerm fs ∷ []) w) (all-front HasFormedType (subterms_of_fields fs) (RecordTerm fs ∷ []) y) (all-front (IsGiven enums I) (subterms_of_fields fs) (RecordTerm fs ∷ []) g)
    is_valued (SetTerm t ts) h f w y g = (
      are_valued ts (first_so (typed_all ts) (are_elements t ts) h) (none-second (type_fault enums t) (terms_fault enums ts) f)
          (all-front IsFormedNode (subterms_of_all ts) (SetTerm t ts ∷ []) w) (all-front HasFormedType (subterms_of_all ts) (SetTerm t ts ∷ []) y) (all-front (IsGiven enums I) (subterms_of_all ts) (SetTerm t ts ∷ []) g),
      typed_elements t ts (second_so (typed_all ts) (are_elements t ts) h),
    )
    is_valued (SomeTerm t) h f w y g =
        is_valued t h (none-second (type_fault enums (type_of t)) (term_fault enums t) f)
        (all-front IsFormedNode (subterms t) (SomeTerm t ∷ []) w) (all-front HasFormedType (subterms t) (SomeTerm t ∷ []) y) (all-front (IsGiven enums I) (subterms t) (SomeTerm t ∷ []) g)
    is_valued (VariableTerm id t) h f w y g = tt

    are_valued : (ts : PlainTerms) → typed_all ts ≡ true → terms_fault enums ts ≡ None → Formed (subterms_of_all ts) → AreTyped (subterms_of_all ts) → Given (subterms_of_all ts) → AreValued ts
    are_valued no_terms h f w y g = tt
    are_valued (one_term t ts) h f w y g =
        let a = first_so (typed t) (typed_all ts) h in
        let b = none-first (term_fault enums t) (terms_fault enums ts) f in
        let c = all-front IsFormedNode (subterms t) (subterms_of_all ts) w in
        let z = all-front HasFormedType (subterms t) (subterms_of_all ts) y in
        let d = all-front (IsGiven enums I) (subterms t) (subterms_of_all ts) g in (
          is_valued t a b c z d,
          valued enums I t a b c d,
          fine_own enums t (no_type_fault enums t a b) z,
          are_valued ts (second_so (typed t) (typed_all ts) h) (none-second (term_fault enums t) (terms_fault enums ts) f)
              (all-back IsFormedNode (subterms t) (subterms_of_all ts) w) (all-back HasFormedType (subterms t) (subterms_of_all ts) y) (all-back (IsGiven enums I) (subterms t) (subterms_of_all ts) g),
        )

    have_values : (fs : PlainFields) → typed_fields fs ≡ true → fields_fault enums fs ≡ None → Formed (subterms_of_fields fs) → AreTyped (subterms_of_fields fs) → Given (subterms_of_fields fs) → HaveValues fs
    have_values no_fields h f w y g = tt
    have_values (one_field a t fs) h f w y g = (
      is_valued t (first_so (typed t) (typed_fields fs) h) (none-first (term_fault enums t) (fields_fault enums fs) f)
          (all-front IsFormedNode (subterms t) (subterms_of_fields fs) w) (all-front HasFormedType (subterms t) (subterms_of_fields fs) y) (all-front (IsGiven enums I) (subterms t) (subterms_of_fields fs) g),
      have_values fs (second_so (typed t) (typed_fields fs) h) (none-second (term_fault enums t) (fields_fault enums fs) f)
          (all-back IsFormedNode (subterms t) (subterms_of_fields fs) w) (all-back HasFormedType (subterms t) (subterms_of_fields fs) y) (all-back (IsGiven enums I) (subterms t) (subterms_of_fields fs) g),
    )

  -- Conditions are such terms.
  pub each_valued : (ts : List PlainTerm) → AllByRecursion (λ t. typed t ≡ true) ts → AllByRecursion IsFormed ts → first_fault enums ts ≡ None → Given (reached_terms ts) → AllByRecursion (λ t. IsValued t × IsValue enums (type_of t) (meaning I t)) ts
  each_valued [] h w f g = tt
  each_valued (t ∷ ts) h w f g =
      let a = none-first (term_fault enums t) (first_fault enums ts) f in
      let d = all-front (IsGiven enums I) (subterms t) (reached_terms ts) g in (
        (is_valued t h.0 a w.0.literals w.0.types d, valued enums I t h.0 a w.0.literals d),
        each_valued ts h.1 w.1 (none-second (term_fault enums t) (first_fault enums ts) f) (all-back (IsGiven enums I) (subterms t) (reached_terms ts) g),
      )
