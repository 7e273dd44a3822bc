-- What a term reaches, by what holds of the subterms of the terms of a list.
use Rattle.std.proofs.Common.{◌≡◌, List, [], ◌∷◌, ◌++◌, refl, ap, sym, subst}
use Rattle.std.specs.Prelude.{Option, None, IfSome, Contains}
use Rattle.std.specs.List.{AllByRecursion, filter_map}
use Rattle.std.proofs.lemmas.List.Elements.{All-contains_itself, recursion_from_All}
use Rattle.law_folding.specs.Refinement.{AreAmong, ReachNoMore, Refines}
use Rattle.law_folding.proofs.Reaching.{AsksNothing, each, gathered, held}
use Rattle.law_terms.specs.Reached.{subterms, subterms_of_all, reached_terms, reached_variable, reached_function, opened_of, selector_of}
use Rattle.law_terms.proofs.Defaults.{all-join}
use Rattle.law_terms.specs.Plain.{PlainTerm, terms}

pub all_reached : (ts : List PlainTerm) → reached_terms ts ≡ subterms_of_all (terms ts)
all_reached [] = refl
all_reached (t ∷ ts) = ap (λ us. subterms t ++ us) (all_reached ts)

-- what holds of all that asks for nothing, and of each subterm of the terms, holds of each subterm of t
abbrev pub ReachesOnly : PlainTerm → List PlainTerm → Type 1
ReachesOnly t ts = (P : PlainTerm → Type 0) → ((w : PlainTerm) → AsksNothing w → P w) → AllByRecursion P (subterms_of_all (terms ts)) → AllByRecursion P (subterms t)

module _ {Y : Type 0} (f : PlainTerm → Option Y) (quiet : (w : PlainTerm) → AsksNothing w → f w ≡ None) (t : PlainTerm) (ts : List PlainTerm) (only : ReachesOnly t ts) where
  abbrev IsBroughtBy : PlainTerm → Type 0
  IsBroughtBy w = IfSome (f w) (Contains (filter_map f (reached_terms ts)))

  brought : AllByRecursion IsBroughtBy (reached_terms ts)
  brought =
      each f (Contains (filter_map f (reached_terms ts))) (reached_terms ts) (recursion_from_All (Contains (filter_map f (reached_terms ts))) (filter_map f (reached_terms ts)) (All-contains_itself (filter_map f (reached_terms ts))))

  among_all : AreAmong (filter_map f (reached_terms (t ∷ []))) (filter_map f (reached_terms ts))
  among_all =
      held (filter_map f (reached_terms (t ∷ []))) (filter_map f (reached_terms ts))
      (gathered f (Contains (filter_map f (reached_terms ts))) (reached_terms (t ∷ []))
      (all-join IsBroughtBy (subterms t) [] (only IsBroughtBy (λ w a. subst (λ o. IfSome o (Contains (filter_map f (reached_terms ts)))) (sym (quiet w a)) tt) (subst (λ us. AllByRecursion IsBroughtBy us) (all_reached ts) brought)) tt))

pub reach_no_more : (t : PlainTerm) (ts : List PlainTerm) → ReachesOnly t ts → ReachNoMore (t ∷ []) ts
reach_no_more t ts only = record {
  variables = among_all reached_variable (λ w a. a.0) t ts only;
  functions = among_all reached_function (λ w a. a.1) t ts only;
  options = among_all opened_of (λ w a. a.2) t ts only;
  selectors = among_all selector_of (λ w a. a.3) t ts only;
}

-- what stands for a term reaches no more than it
pub stands_within : (t u : PlainTerm) (ts : List PlainTerm) → Refines t u → ReachNoMore (u ∷ []) ts → ReachNoMore (t ∷ []) ts
stands_within t u ts s r = record {
  variables = λ x m. r.variables x (s.variables x m);
  functions = λ x m. r.functions x (s.functions x m);
  options = λ x m. r.options x (s.options x m);
  selectors = λ x m. r.selectors x (s.selectors x m);
}
