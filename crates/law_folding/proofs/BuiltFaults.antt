-- What is built for a typed term without fault has no fault.
use Rattle.std.proofs.Common.{◌≡◌, true, ◌∷◌, refl, ap, ◌∙◌}
use Rattle.std.specs.Prelude.{Some, None}
use Rattle.std.specs.Cmp.{first_so, second_so}
use Rattle.std.specs.List.{AllByRecursion}
use Rattle.std.specs.Option.{option_or}
use Rattle.law_terms.specs.Faults.{is_passed_over, type_fault, operator_fault, term_fault, terms_fault, fields_fault}
use Rattle.law_terms.specs.Plain.{PlainTerm, Application, NoneTerm, LiteralTerm, RecordTerm, SetTerm, SomeTerm, VariableTerm, PlainTerms, no_terms, one_term, PlainFields, no_fields, one_field, terms}
use Rattle.law_terms.specs.Types.{is_type, result_type, type_of, types_of}
use Rattle.law_terms.specs.Typing.{are_elements, typed, typed_all, typed_fields}
use Rattle.law_terms.specs.TypeValues.{Enums}
use Rattle.law_terms.proofs.Soundness.{is_type-some, none-first, none-second, none_both, not-passed, walked}
use Rattle.law_folding.specs.Built.{built, built_all, built_fields}
use Rattle.law_folding.proofs.BuiltTerms.{built_stands}
use Rattle.law_folding.proofs.FoldedFaults.{IsFaultless, faultless_folded, faultless_set, faultless_some}
use Rattle.law_folding.proofs.Standing.{same_type}

-- ---- types

built_type : (t : PlainTerm) → typed t ≡ true → type_of (built t) ≡ type_of t
built_type t h = (same_type (built t) t (built_stands t h) h).1

built_types : (ts : PlainTerms) → typed_all ts ≡ true → types_of (terms (built_all ts)) ≡ types_of ts
built_types no_terms h = refl
built_types (one_term t ts) h =
    let p : type_of (built t) ≡ type_of t = built_type t (first_so (typed t) (typed_all ts) h) in
    let q : types_of (terms (built_all ts)) ≡ types_of ts = built_types ts (second_so (typed t) (typed_all ts) h) in
    λ i. p i ∷ q i

-- ---- whole terms

module _ (enums : Enums) where
  mutual
    pub built_faultless : (t : PlainTerm) → typed t ≡ true → term_fault enums t ≡ None → term_fault enums (built t) ≡ None
    built_faultless (Application o ts ty) h f =
        let args : typed_all ts ≡ true = first_so (typed_all ts) (is_type (result_type o (types_of ts)) ty) h in
        let result : result_type o (types_of ts) ≡ Some ty = is_type-some (result_type o (types_of ts)) ty (second_so (typed_all ts) (is_type (result_type o (types_of ts)) ty) h) in
        let all : option_or (type_fault enums ty) (option_or (terms_fault enums ts) (operator_fault enums o (types_of ts))) ≡ None = not-passed (is_passed_over o (types_of ts) ty) _ (walked enums o (types_of ts) ty result) f in
        let rest : option_or (terms_fault enums ts) (operator_fault enums o (types_of ts)) ≡ None = none-second (type_fault enums ty) _ all in
        faultless_folded enums o (built_all ts) ty (all_built_faultless ts args (none-first (terms_fault enums ts) (operator_fault enums o (types_of ts)) rest)) (none-first (type_fault enums ty) _ all)
        (ap (operator_fault enums o) (built_types ts args) ∙ none-second (terms_fault enums ts) (operator_fault enums o (types_of ts)) rest)
    built_faultless (NoneTerm ty) h f = f
    built_faultless (LiteralTerm l) h f = f
    built_faultless (RecordTerm fs) h f =
        none_both (type_fault enums (type_of (RecordTerm (built_fields fs)))) (fields_fault enums (built_fields fs))
        (ap (type_fault enums) (built_type (RecordTerm fs) h) ∙ none-first (type_fault enums (type_of (RecordTerm fs))) (fields_fault enums fs) f)
        (fields_built_faultless fs h (none-second (type_fault enums (type_of (RecordTerm fs))) (fields_fault enums fs) f))
    built_faultless (SetTerm ty ts) h f =
        faultless_set enums ty (built_all ts) (none-first (type_fault enums ty) (terms_fault enums ts) f) (all_built_faultless ts (first_so (typed_all ts) (are_elements ty ts) h) (none-second (type_fault enums ty) (terms_fault enums ts) f))
    built_faultless (SomeTerm t) h f = faultless_some enums (built t) (built_faultless t h (none-second (type_fault enums (type_of t)) (term_fault enums t) f))
    built_faultless (VariableTerm id ty) h f = f

    all_built_faultless : (ts : PlainTerms) → typed_all ts ≡ true → terms_fault enums ts ≡ None → AllByRecursion (IsFaultless enums) (built_all ts)
    all_built_faultless no_terms h f = tt
    all_built_faultless (one_term t ts) h f = (
      built_faultless t (first_so (typed t) (typed_all ts) h) (none-first (term_fault enums t) (terms_fault enums ts) f),
      all_built_faultless ts (second_so (typed t) (typed_all ts) h) (none-second (term_fault enums t) (terms_fault enums ts) f),
    )

    fields_built_faultless : (fs : PlainFields) → typed_fields fs ≡ true → fields_fault enums fs ≡ None → fields_fault enums (built_fields fs) ≡ None
    fields_built_faultless no_fields h f = refl
    fields_built_faultless (one_field a t fs) h f =
        none_both (term_fault enums (built t)) (fields_fault enums (built_fields fs)) (built_faultless t (first_so (typed t) (typed_fields fs) h) (none-first (term_fault enums t) (fields_fault enums fs) f))
        (fields_built_faultless fs (second_so (typed t) (typed_fields fs) h) (none-second (term_fault enums t) (fields_fault enums fs) f))
