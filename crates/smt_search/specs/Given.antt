-- Truths as a list.
use Rattle.std.specs.Prelude.{◌≡◌, ℕ, Bool, List, MatchBool, Some, false, true, slice_get, slice_index_or}
use Rattle.law_clauses.specs.Clauses.{Solves, clause_truth}
use Rattle.smt_search.specs.declared.truths.Truths.{Truths}

-- the truths of the variables, in order
abbrev pub listed : Truths → List Bool
listed t = t.values.items

-- what a list gives each variable: one past its end is false
abbrev pub truths_of : List Bool → ℕ → Bool
truths_of values n = slice_index_or values n false

-- the truth of each variable
abbrev pub truths : Truths → ℕ → Bool
truths t = truths_of (listed t)

-- the clause at a place is true, where there is one
abbrev pub HoldsAt : (ℕ → Bool) → List (List ℕ) → ℕ → Type 0
HoldsAt v cs place = (c : List ℕ) → slice_get cs place ≡ Some c → clause_truth v c ≡ true

-- truths don't make each clause true
abbrev pub DoNotSolve : (ℕ → Bool) → List (List ℕ) → Type 0
DoNotSolve v cs = Solves v cs → ⊥

-- an answer tells whether a list of truths makes the clause at a place true; where not, it doesn't solve the clauses
abbrev pub TellsHoldsAt : List Bool → List (List ℕ) → ℕ → Bool → Type 0
TellsHoldsAt values cs place told = MatchBool told (HoldsAt (truths_of values) cs place) (DoNotSolve (truths_of values) cs)

-- an answer tells whether a list of truths makes each clause true
abbrev pub TellsSolves : List Bool → List (List ℕ) → Bool → Type 0
TellsSolves values cs told = MatchBool told (Solves (truths_of values) cs) (DoNotSolve (truths_of values) cs)
