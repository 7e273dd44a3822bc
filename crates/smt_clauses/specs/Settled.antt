-- What a clause gives.
use Rattle.std.specs.Prelude.{◌≡◌, ⊤, ℕ, IfSome, List, slice_get, true}
use Rattle.law_clauses.specs.Clauses.{Truths, clause_truth, negated}
use Rattle.smt_clauses.specs.Marked.{AllAreOut, IsFree, IsMarked, MarksHold}
use Rattle.smt_clauses.specs.declared.marks.Marks.{Marks}
use Rattle.smt_clauses.specs.declared.scan.Settled.{Settled}
use Rattle.smt_clauses.specs.declared.scan.Settled.TheVariants.{Holds, Moves, Gives, Conflicts}

-- all literals are false
abbrev pub IsConflict : Settled → Type 0
IsConflict Conflicts = ⊤
IsConflict Holds = ⊥
IsConflict (Moves l) = ⊥
IsConflict Gives = ⊥

-- what a clause is said to give, of which one literal was looked at, is so by the marks: that literal is true, another one is not
-- false, all others are false and that one is open, or all are false
abbrev pub IsGivenBy : List ℕ → Marks → ℕ → Settled → Type 0
IsGivenBy c m other Holds = IsMarked m other
IsGivenBy c m other (Moves l) = IsFree c m other l
IsGivenBy c m other Gives = AllAreOut c m other × ¬ IsMarked m (negated other)
IsGivenBy c m other Conflicts = AllAreOut c m other × IsMarked m (negated other)

-- so it is of each clause all of whose other literals are false
abbrev pub IsGivenLast : Marks → ℕ → Settled → Type 0
IsGivenLast m other settled = (c : List ℕ) → AllAreOut c m other → IsGivenBy c m other settled

-- what the clause at a place is said to give is so, where there is one
abbrev pub IsGivenAt : List (List ℕ) → ℕ → Marks → ℕ → Settled → Type 0
IsGivenAt cs place m other settled = IfSome (slice_get cs place) (λ c. IsGivenBy c m other settled)

-- where a clause is true, and so are the literals that were marked, those that are marked now are true too
abbrev pub MarksFollow : List ℕ → Marks → Marks → Type 0
MarksFollow c old new = (v : Truths) → clause_truth v c ≡ true → MarksHold v old → MarksHold v new

-- a clause is false wherever the marked literals are true
abbrev pub IsFalsified : List ℕ → Marks → Type 0
IsFalsified c m = (v : Truths) → clause_truth v c ≡ true → MarksHold v m → ⊥
