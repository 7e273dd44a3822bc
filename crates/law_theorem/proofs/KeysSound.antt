-- The keys of entries are typed and have no fault.
use Rattle.std.proofs.Common.{◌≡◌, true, List, [], ◌∷◌, ◌++◌, None}
use Rattle.std.specs.Cmp.{first_so, second_so}
use Rattle.std.specs.List.{AllByRecursion}
use Rattle.std.specs.Option.{option_or}
use Rattle.law_terms.specs.Faults.{is_passed_over, type_fault, operator_fault, term_fault, terms_fault, fields_fault, first_fault}
use Rattle.law_terms.specs.Plain.{RecordType, PlainTerm, Application, NoneTerm, LiteralTerm, RecordTerm, SetTerm, SomeTerm, VariableTerm, PlainTerms, no_terms, one_term, PlainFields, no_fields, one_field}
use Rattle.law_terms.specs.Reached.{subterms, subterms_of_all, subterms_of_fields, reached_terms}
use Rattle.law_terms.specs.Types.{type_of, field_types, types_of, result_type, is_type}
use Rattle.law_terms.specs.Typing.{are_elements, typed, typed_all, typed_fields}
use Rattle.law_terms.specs.TypeValues.{Enums}
use Rattle.law_terms.proofs.Soundness.{none-first, none-second, not-passed, is_type-some, walked}
use Rattle.law_lines.proofs.Known.{each_map}
use Rattle.law_theorem.proofs.Open.{at_term}
use Rattle.law_theorem.specs.Fits.{KeysAreSound, IsSoundTerm}
use Rattle.law_theorem.proofs.FineTerms.{parts_typed}
use Rattle.law_terms.proofs.Defaults.{all-join}

module _ (enums : Enums) where
  abbrev Sound : List PlainTerm → Type 0
  Sound ts = AllByRecursion (IsSoundTerm enums) ts

  then_last : (ts : List PlainTerm) (t : PlainTerm) → Sound ts → IsSoundTerm enums t → Sound (ts ++ t ∷ [])
  then_last ts t a h = all-join (IsSoundTerm enums) ts (t ∷ []) a (h, tt)

  mutual
    parts : (t : PlainTerm) → typed t ≡ true → term_fault enums t ≡ None → Sound (subterms t)
    parts (Application o ts t) h f =
        let r = is_type-some (result_type o (types_of ts)) t (second_so (typed_all ts) (is_type (result_type o (types_of ts)) t) h) in
        let e : option_or (type_fault enums t) (option_or (terms_fault enums ts) (operator_fault enums o (types_of ts))) ≡ None = not-passed (is_passed_over o (types_of ts) t) _ (walked enums o (types_of ts) t r) f in
        let d : option_or (terms_fault enums ts) (operator_fault enums o (types_of ts)) ≡ None = none-second (type_fault enums t) _ e in
        then_last (subterms_of_all ts) (Application o ts t)
        (all_parts ts (first_so (typed_all ts) (is_type (result_type o (types_of ts)) t) h) (none-first (terms_fault enums ts) (operator_fault enums o (types_of ts)) d)) (h, f)
    parts (NoneTerm t) h f = ((h, f), tt)
    parts (LiteralTerm l) h f = ((h, f), tt)
    parts (RecordTerm fs) h f = then_last (subterms_of_fields fs) (RecordTerm fs) (field_parts fs h (none-second (type_fault enums (RecordType (field_types fs))) (fields_fault enums fs) f)) (h, f)
    parts (SetTerm t ts) h f = then_last (subterms_of_all ts) (SetTerm t ts) (all_parts ts (first_so (typed_all ts) (are_elements t ts) h) (none-second (type_fault enums t) (terms_fault enums ts) f)) (h, f)
    parts (SomeTerm t) h f = then_last (subterms t) (SomeTerm t) (parts t h (none-second (type_fault enums (type_of t)) (term_fault enums t) f)) (h, f)
    parts (VariableTerm id t) h f = ((h, f), tt)

    all_parts : (ts : PlainTerms) → typed_all ts ≡ true → terms_fault enums ts ≡ None → Sound (subterms_of_all ts)
    all_parts no_terms h f = tt
    all_parts (one_term t ts) h f =
        all-join (IsSoundTerm enums) (subterms t) (subterms_of_all ts) (parts t (first_so (typed t) (typed_all ts) h) (none-first (term_fault enums t) (terms_fault enums ts) f))
        (all_parts ts (second_so (typed t) (typed_all ts) h) (none-second (term_fault enums t) (terms_fault enums ts) f))

    field_parts : (fs : PlainFields) → typed_fields fs ≡ true → fields_fault enums fs ≡ None → Sound (subterms_of_fields fs)
    field_parts no_fields h f = tt
    field_parts (one_field a t fs) h f =
        all-join (IsSoundTerm enums) (subterms t) (subterms_of_fields fs) (parts t (first_so (typed t) (typed_fields fs) h) (none-first (term_fault enums t) (fields_fault enums fs) f))
        (field_parts fs (second_so (typed t) (typed_fields fs) h) (none-second (term_fault enums t) (fields_fault enums fs) f))

  all_reached : (ts : List PlainTerm) → AllByRecursion (λ t. typed t ≡ true) ts → first_fault enums ts ≡ None → Sound (reached_terms ts)
  all_reached [] h f = tt
  all_reached (t ∷ ts) h f =
      all-join (IsSoundTerm enums) (subterms t) (reached_terms ts) (parts t h.0 (none-first (term_fault enums t) (first_fault enums ts) f)) (all_reached ts h.1 (none-second (term_fault enums t) (first_fault enums ts) f))

pub keys_are_sound : KeysAreSound
keys_are_sound enums x state f =
    each_map _ (λ t n. IsSoundTerm enums t)
    (λ t n k. at_term (IsSoundTerm enums) (reached_terms x.terms) t (all_reached enums x.terms (parts_typed x.terms f.conditions.are_typed) f.conditions.have_no_fault) k) x.tables.terms f.reached.terms
