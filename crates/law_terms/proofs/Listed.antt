-- A list of terms and its plain form.
use Rattle.std.proofs.Common.{◌≡◌, List, [], ◌∷◌, refl, ap}
use Rattle.law_terms.specs.Plain.{PlainTerm, PlainTerms, list_of_terms, no_terms, one_term, terms}

-- the terms of a list, as a list
pub listed : (ts : List PlainTerm) → list_of_terms (terms ts) ≡ ts
listed [] = refl
listed (t ∷ ts) = ap (λ us. t ∷ us) (listed ts)

-- the terms that a plain form lists, as one
pub listed_again : (ts : PlainTerms) → terms (list_of_terms ts) ≡ ts
listed_again no_terms = refl
listed_again (one_term t ts) = ap (one_term t) (listed_again ts)
