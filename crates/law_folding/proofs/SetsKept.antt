-- The set of terms that stand for others stands for the set of these.
use Rattle.std.proofs.Common.{◌≡◌, true, List, [], ◌∷◌, refl, ap, ◌∙◌, sym, subst}
use Rattle.std.specs.Prelude.{Option, IfSome, Contains}
use Rattle.std.specs.List.{AllByRecursion, AllZip, filter_map}
use Rattle.law_folding.specs.Refinement.{AreAmong, Refines}
use Rattle.law_folding.proofs.Reaching.{IsBrought, brought_itself, among_brought}
use Rattle.law_folding.proofs.Records.{HasFormedType}
use Rattle.law_folding.proofs.SetLists.{IsElement, among_them, each_typed, elements_typed, same_meanings, set_typed, unsorted}
use Rattle.law_folding.proofs.Standing.{Given, StandAmong, all_through, formed_all, meanings_all, same_type, valued}
use Rattle.law_terms.specs.Formed.{IsFormedNode, IsFormed}
use Rattle.law_terms.specs.Interpretations.{IsGiven}
use Rattle.law_terms.specs.Meaning.{meanings}
use Rattle.law_terms.specs.Reached.{subterms, subterms_of_all, reached_terms, reached_variable, reached_function, opened_of, selector_of}
use Rattle.law_terms.specs.Tables.{Interpretation}
use Rattle.law_terms.specs.TermSets.{set_term, sorted_terms}
use Rattle.law_terms.specs.Typing.{typed}
use Rattle.law_terms.specs.TypeValues.{Enums}
use Rattle.law_terms.specs.ValueOrder.{set_of}
use Rattle.law_terms.proofs.Defaults.{all-join}
use Rattle.law_terms.proofs.SortedSets.{in-terms, out-terms}
use Rattle.law_terms.proofs.Soundness.{all-front, all-last}
use Rattle.law_terms.proofs.Listed.{listed}
use Rattle.law_terms.specs.Plain.{PlainType, PlainTerm, terms}

module _ (P : PlainTerm → Type 0) where
  -- the subterms of a set's elements, whatever their order
  pub of_elements : (ty : PlainType) (ts : List PlainTerm) → AllByRecursion P (subterms (set_term ty ts)) → AllByRecursion P (subterms_of_all (terms ts))
  of_elements ty ts h = among_them P ts (sorted_terms ts) (λ z m. in-terms z ts m) (all-front P (subterms_of_all (terms (sorted_terms ts))) (set_term ty ts ∷ []) h)

  pub of_set : (ty : PlainType) (ts : List PlainTerm) → P (set_term ty ts) → AllByRecursion P (subterms_of_all (terms ts)) → AllByRecursion P (subterms (set_term ty ts))
  of_set ty ts p h = all-join P (subterms_of_all (terms (sorted_terms ts))) (set_term ty ts ∷ []) (among_them P (sorted_terms ts) ts (λ z m. out-terms z ts m) h) (p, tt)

  pub of_last : (ty : PlainType) (ts : List PlainTerm) → AllByRecursion P (subterms (set_term ty ts)) → P (set_term ty ts)
  of_last ty ts h = all-last P (subterms_of_all (terms (sorted_terms ts))) (set_term ty ts) h

module _ {Y : Type 0} (f : PlainTerm → Option Y) (one : StandAmong f) where
  set_among : (ty : PlainType) (ts us : List PlainTerm) → AllZip Refines ts us → f (set_term ty ts) ≡ f (set_term ty us) → AreAmong (filter_map f (reached_terms (set_term ty ts ∷ []))) (filter_map f (reached_terms (set_term ty us ∷ [])))
  set_among ty ts us z e =
      let x : PlainTerm = set_term ty us in
      let h : AllByRecursion (IsBrought f x) (subterms x) = brought_itself f x in
      among_brought f (set_term ty ts) x (of_set (IsBrought f x) ty ts
      (subst (λ b. IfSome b (Contains (filter_map f (reached_terms (x ∷ []))))) (sym e) (of_last (IsBrought f x) ty us h))
      (all_through f one (Contains (filter_map f (reached_terms (x ∷ [])))) ts us z (of_elements (IsBrought f x) ty us h)))

elements_kept : (ty : PlainType) (ts us : List PlainTerm) → AllZip Refines ts us → AllByRecursion (IsElement ty) us → AllByRecursion (IsElement ty) ts
elements_kept ty [] [] z h = tt
elements_kept ty [] (u ∷ us) z h = elim z [ ]
elements_kept ty (t ∷ ts) [] z h = elim z [ ]
elements_kept ty (t ∷ ts) (u ∷ us) z h = let r = same_type t u z.0 h.0.parts in (record { parts = r.0; type = h.0.type ∙ sym r.1 }, elements_kept ty ts us z.1 h.1)

-- the elements of a typed set, whatever their order
pub elements_of : (ty : PlainType) (ts : List PlainTerm) → typed (set_term ty ts) ≡ true → AllByRecursion (IsElement ty) ts
elements_of ty ts h = unsorted (IsElement ty) ts (subst (λ (us : List PlainTerm). AllByRecursion (IsElement ty) us) (listed (sorted_terms ts)) (elements_typed ty (terms (sorted_terms ts)) h))

module _ (ty : PlainType) (ts us : List PlainTerm) (z : AllZip Refines ts us) where
  formed : IsFormed (set_term ty us) → IsFormed (set_term ty ts)
  formed f =
      let r = formed_all ts us z (of_elements IsFormedNode ty us f.literals) (of_elements HasFormedType ty us f.types) in
      record { literals = of_set IsFormedNode ty ts tt r.0; types = of_set HasFormedType ty ts (of_last HasFormedType ty us f.types) r.1 }

  kept_typed : typed (set_term ty us) ≡ true → typed (set_term ty ts) ≡ true
  kept_typed h = set_typed ty ts (elements_kept ty ts us z (elements_of ty us h))

  kept_value : (enums : Enums) (I : Interpretation) → typed (set_term ty us) ≡ true → IsFormed (set_term ty us) → Given enums I (set_term ty us) → set_of (meanings I (terms (sorted_terms ts))) ≡ set_of (meanings I (terms (sorted_terms us)))
  kept_value enums I h f g =
      same_meanings I (sorted_terms ts) ts (λ w m. out-terms w ts m) (λ w m. in-terms w ts m)
      ∙ (ap set_of (meanings_all enums I ts us z (each_typed ty us (elements_of ty us h)) (of_elements IsFormedNode ty us f.literals) (of_elements HasFormedType ty us f.types) (of_elements (IsGiven enums I) ty us g))
      ∙ same_meanings I us (sorted_terms us) (λ w m. in-terms w us m) (λ w m. out-terms w us m))

  pub set_kept : Refines (set_term ty ts) (set_term ty us)
  set_kept = record {
    formed = formed;
    type = λ y h. record { parts = kept_typed h.parts; type = h.type };
    variables = set_among reached_variable (λ t u s. s.variables) ty ts us z refl;
    functions = set_among reached_function (λ t u s. s.functions) ty ts us z refl;
    options = set_among opened_of (λ t u s. s.options) ty ts us z refl;
    selectors = set_among selector_of (λ t u s. s.selectors) ty ts us z refl;
    value = λ y enums I f h i. valued I (set_term ty ts) (kept_typed h.parts) ∙ (kept_value enums I h.parts f (all-front (IsGiven enums I) (subterms (set_term ty us)) [] i) ∙ sym (valued I (set_term ty us) h.parts));
  }
