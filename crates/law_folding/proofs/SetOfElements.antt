-- The set of typed elements is typed, and its value is the set of their values.
use Rattle.std.proofs.Common.{◌≡◌, List, [], ◌∷◌, map, refl, ap, ◌∙◌, sym, subst}
use Rattle.std.specs.List.{AllByRecursion}
use Rattle.law_folding.specs.SetOf.{IsSetOf}
use Rattle.law_folding.proofs.ReachingLists.{reach_no_more}
use Rattle.law_folding.proofs.SetLists.{IsElement, same_meanings, set_typed}
use Rattle.law_folding.proofs.SetsKept.{of_set}
use Rattle.law_folding.proofs.Standing.{valued}
use Rattle.law_terms.specs.Meaning.{meaning, meanings, term_value}
use Rattle.law_terms.specs.Plain.{PlainType, PlainTerm, terms}
use Rattle.law_terms.specs.Tables.{Interpretation}
use Rattle.law_terms.specs.TermSets.{set_term, sorted_terms}
use Rattle.law_terms.specs.Typing.{AreOfType}
use Rattle.law_terms.specs.ValueOrder.{set_of}
use Rattle.law_terms.proofs.SortedSets.{in-terms, out-terms}

module _ (element : PlainType) where
  as_elements : (ts : List PlainTerm) → AreOfType element ts → AllByRecursion (IsElement element) ts
  as_elements [] h = tt
  as_elements (t ∷ ts) h = (record { parts = h.0.parts; type = sym h.0.type }, as_elements ts h.1)

  values_of : (I : Interpretation) (ts : List PlainTerm) → AreOfType element ts → meanings I (terms ts) ≡ map (term_value I) ts
  values_of I [] h = refl
  values_of I (t ∷ ts) h =
      let p : meaning I t ≡ term_value I t = sym (valued I t h.0.parts) in
      let q : meanings I (terms ts) ≡ map (term_value I) ts = values_of I ts h.1 in
      λ i. p i ∷ q i

  pub set_of_elements : (ts : List PlainTerm) (r : PlainTerm) → r ≡ set_term element ts → AreOfType element ts → IsSetOf element ts r
  set_of_elements ts r e h = subst (λ (x : PlainTerm). IsSetOf element ts x) (sym e) (record {
    type = record { parts = set_typed element ts (as_elements ts h); type = refl };
    value = λ I. valued I (set_term element ts) (set_typed element ts (as_elements ts h)) ∙ (same_meanings I (sorted_terms ts) ts (λ z m. out-terms z ts m) (λ z m. in-terms z ts m) ∙ ap set_of (values_of I ts h));
    reached = reach_no_more (set_term element ts) ts (λ P quiet g. of_set P element ts (quiet (set_term element ts) (refl, refl, refl, refl)) g);
  })
