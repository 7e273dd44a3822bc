-- Clauses of sets.
use Rattle.std.specs.Prelude.{List, [], ◌∷◌, map}
use Rattle.law_terms.specs.Plain.{PlainType, SetType, PlainTerm, SetTerm, terms}
use Rattle.law_terms.specs.TypeValues.{Enums}
use Rattle.law_clauses.specs.Applications.{inter_term, member_term, subset_term}
use Rattle.law_clauses.specs.Sequents.{AreAlwaysValid, IsAlwaysValid, IsValid, Sequent, always, either, implies, ◌⊢◌}
use Rattle.law_clauses.specs.Shapes.{HasShape}
use Rattle.law_clauses.specs.Statements.{Apart, Element, Same, TruthOf, Value_of, Within, same_terms}

-- an element that is the same is in the same sets
abbrev pub same_elements : Element → Element → PlainTerm → Sequent
same_elements a b s = (Same a b ∷ Within a s ∷ []) ⊢ (Within b s ∷ [])

-- sets that are the same have the same elements
abbrev pub same_sets : Element → PlainTerm → PlainTerm → Sequent
same_sets a r s = (same_terms r s ∷ Within a r ∷ []) ⊢ (Within a s ∷ [])

-- `set.member` says that a value is in a set
abbrev pub member_clauses : PlainTerm → PlainTerm → List Sequent
member_clauses t s =
    implies (TruthOf (member_term t s)) (Within (Value_of t) s) ∷ implies (Within (Value_of t) s) (TruthOf (member_term t s)) ∷ []

-- what is in a set of terms is the same as one of them
abbrev pub one_of : Element → PlainType → List PlainTerm → Sequent
one_of a ty ts = (Within a (SetTerm ty (terms ts)) ∷ []) ⊢ map (λ t. Same a (Value_of t)) ts

-- and each of them is in it
abbrev pub each_in : PlainType → List PlainTerm → List Sequent
each_in ty ts = map (λ t. always (Within (Value_of t) (SetTerm ty (terms ts)))) ts

-- what is in both sets is in their intersection
abbrev pub inter_clauses : Element → PlainType → PlainTerm → PlainTerm → List Sequent
inter_clauses a ty r s =
    implies (Within a (inter_term ty r s)) (Within a r) ∷
    implies (Within a (inter_term ty r s)) (Within a s) ∷
    ((Within a r ∷ Within a s ∷ []) ⊢ (Within a (inter_term ty r s) ∷ [])) ∷ []

-- an element of a subset is in the set; where it is no subset, one is in the first and not in the second
abbrev pub subset_clauses : Element → PlainTerm → PlainTerm → List Sequent
subset_clauses a r s =
    ((TruthOf (subset_term r s) ∷ Within a r ∷ []) ⊢ (Within a s ∷ [])) ∷
    either (TruthOf (subset_term r s)) (Within (Apart r s) r) ∷
    implies (Within (Apart r s) s) (TruthOf (subset_term r s)) ∷ []

-- sets that are subsets of each other are the same
abbrev pub subsets_are_same : PlainTerm → PlainTerm → Sequent
subsets_are_same r s = (TruthOf (subset_term r s) ∷ TruthOf (subset_term s r) ∷ []) ⊢ (same_terms r s ∷ [])

-- all of these are valid, the last of terms of a set type
pub record SetsAreValid : Type 0 where
  pub elements : (a b : Element) (s : PlainTerm) → IsAlwaysValid (same_elements a b s)
  pub sets : (a : Element) (r s : PlainTerm) → IsAlwaysValid (same_sets a r s)
  pub members : (t s : PlainTerm) → AreAlwaysValid (member_clauses t s)
  pub listed : (a : Element) (ty : PlainType) (ts : List PlainTerm) → IsAlwaysValid (one_of a ty ts)
  pub each : (ty : PlainType) (ts : List PlainTerm) → AreAlwaysValid (each_in ty ts)
  pub intersections : (a : Element) (ty : PlainType) (r s : PlainTerm) → AreAlwaysValid (inter_clauses a ty r s)
  pub subsets : (a : Element) (r s : PlainTerm) → AreAlwaysValid (subset_clauses a r s)
  pub equal :
      (enums : Enums) (roots : List PlainTerm) (ty : PlainType) (r s : PlainTerm)
      → HasShape enums roots r (SetType ty) → HasShape enums roots s (SetType ty) → IsValid enums roots (subsets_are_same r s)
