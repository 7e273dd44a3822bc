-- The record of typed terms is typed, and has for each attribute the value of the term that was given last with it.
use Rattle.std.proofs.Common.{◌≡◌, ℕ, Bool, true, false, List, [], ◌∷◌, map, refl, ap, ◌∙◌, sym}
use Rattle.std.specs.Prelude.{bytes_eq, cond, option_map, Some}
use Rattle.std.specs.Cmp.Derive.{both_true}
use Rattle.std.specs.List.{AllByRecursion}
use Rattle.std.specs.Map.{lookup}
use Rattle.std.specs.Option.{option_map_or}
use Rattle.law_folding.specs.FoldRecords.{field_in, record_of_pairs, sorted_fields}
use Rattle.law_folding.specs.RecordOf.{IsRecordOf, last_given}
use Rattle.law_folding.proofs.ReachingLists.{reach_no_more}
use Rattle.law_folding.proofs.RecordsStand.{type_found}
use Rattle.law_folding.proofs.Standing.{valued}
use Rattle.law_terms.specs.Meaning.{field_meanings, meaning, term_value}
use Rattle.law_terms.specs.Operators.{attribute_value, field_value}
use Rattle.law_terms.specs.Plain.{PlainTerm, terms, record_fields}
use Rattle.law_terms.specs.Reached.{subterms, subterms_of_all, subterms_of_fields}
use Rattle.law_terms.specs.Tables.{Interpretation}
use Rattle.law_terms.specs.Types.{type_of}
use Rattle.law_terms.specs.Typing.{AreTyped, typed, typed_fields}
use Rattle.law_terms.specs.Values.{BoolValue}
use Rattle.law_terms.specs.ValueOrder.{text_cmp}
use Rattle.law_terms.proofs.Defaults.{all-join}
use Rattle.law_terms.proofs.Sorted.{all-sorted}
use Rattle.law_terms.proofs.Soundness.{all-back, all-front}

abbrev Pair : Type 0
Pair = List ℕ × PlainTerm

-- ---- fields of pairs

abbrev IsTypedPair : Pair → Type 0
IsTypedPair p = typed p.1 ≡ true

pub field_looked : (x : List ℕ) (ps : List Pair) → field_in x (record_fields ps) ≡ lookup (bytes_eq x) ps
field_looked x [] = refl
field_looked x (p ∷ ps) = by (bytes_eq x p.0) (field_looked x ps)
  where
    by : (b : Bool) → field_in x (record_fields ps) ≡ lookup (bytes_eq x) ps → (elim b [ true ↦ Some p.1 | false ↦ field_in x (record_fields ps) ]) ≡ cond b (Some p.1) (lookup (bytes_eq x) ps)
    by true rest = refl
    by false rest = rest

each_typed : (ps : List Pair) → AreTyped (map (λ p. p.1) ps) → AllByRecursion IsTypedPair ps
each_typed [] h = tt
each_typed (p ∷ ps) h = (h.0, each_typed ps h.1)

fields_typed : (ps : List Pair) → AllByRecursion IsTypedPair ps → typed_fields (record_fields ps) ≡ true
fields_typed [] h = refl
fields_typed (p ∷ ps) h = both_true h.0 (fields_typed ps h.1)

value_looked : (I : Interpretation) (x : List ℕ) (ps : List Pair) → AllByRecursion IsTypedPair ps → field_value x (field_meanings I (record_fields ps)) ≡ option_map_or (term_value I) (lookup (bytes_eq x) ps) (BoolValue false)
value_looked I x [] h = refl
value_looked I x (p ∷ ps) h = by (bytes_eq x p.0) (value_looked I x ps h.1)
  where
    by : (b : Bool) → field_value x (field_meanings I (record_fields ps)) ≡ option_map_or (term_value I) (lookup (bytes_eq x) ps) (BoolValue false) → (elim b [ true ↦ meaning I p.1 | false ↦ field_value x (field_meanings I (record_fields ps)) ]) ≡ option_map_or (term_value I) (cond b (Some p.1) (lookup (bytes_eq x) ps)) (BoolValue false)
    by true rest = sym (valued I p.1 h.0)
    by false rest = rest

-- ---- what they reach

module _ (P : PlainTerm → Type 0) where
  abbrev HoldsWithin : Pair → Type 0
  HoldsWithin p = AllByRecursion P (subterms p.1)

  each_within : (ps : List Pair) → AllByRecursion P (subterms_of_all (terms (map (λ p. p.1) ps))) → AllByRecursion HoldsWithin ps
  each_within [] h = tt
  each_within (p ∷ ps) h =
      let rest : List PlainTerm = subterms_of_all (terms (map (λ q. q.1) ps)) in
      (all-front P (subterms p.1) rest h, each_within ps (all-back P (subterms p.1) rest h))

  fields_within : (ps : List Pair) → AllByRecursion HoldsWithin ps → AllByRecursion P (subterms_of_fields (record_fields ps))
  fields_within [] h = tt
  fields_within (p ∷ ps) h = all-join P (subterms p.1) (subterms_of_fields (record_fields ps)) h.0 (fields_within ps h.1)

-- ---- the record

in_order : (Q : Pair → Type 0) (ps : List Pair) → AllByRecursion Q ps → AllByRecursion Q (sorted_fields ps)
in_order Q ps h = all-sorted (λ p q. text_cmp p.0 q.0) Q ps h

pub record_of_typed : (ps : List Pair) → ((x : List ℕ) → lookup (bytes_eq x) (sorted_fields ps) ≡ last_given ps x) → AreTyped (map (λ p. p.1) ps) → IsRecordOf ps (record_of_pairs ps)
record_of_typed ps last h =
    let each : AllByRecursion IsTypedPair (sorted_fields ps) = in_order IsTypedPair ps (each_typed ps h) in
    let whole : typed_fields (record_fields (sorted_fields ps)) ≡ true = fields_typed (sorted_fields ps) each in
    record {
      typed = whole;
      types = λ x. type_found x (record_fields (sorted_fields ps)) ∙ ap (option_map type_of) (field_looked x (sorted_fields ps) ∙ last x);
      value = λ I x. ap (attribute_value x) (valued I (record_of_pairs ps) whole) ∙ (value_looked I x (sorted_fields ps) each ∙ ap (λ o. option_map_or (term_value I) o (BoolValue false)) (last x));
      reached = reach_no_more (record_of_pairs ps) (map (λ p. p.1) ps) (λ P quiet g. all-join P (subterms_of_fields (record_fields (sorted_fields ps))) (record_of_pairs ps ∷ []) (fields_within P (sorted_fields ps) (in_order (HoldsWithin P) ps (each_within P ps g))) (quiet (record_of_pairs ps) (refl, refl, refl, refl), tt));
    }
