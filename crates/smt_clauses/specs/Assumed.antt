-- What marks are where a clause is taken to be false.
use Rattle.std.specs.Prelude.{◌≡◌, ◌<◌, ℕ, EachIndex, List, false, slice_index, true}
use Rattle.law_clauses.specs.Clauses.{Truths, clause_truth, negated}
use Rattle.smt_clauses.specs.Marked.{IsMarked, MarksHold, width_of}
use Rattle.smt_clauses.specs.declared.marks.Marks.{Marks}

-- the negation of a literal is marked, where it can be
abbrev pub IsAssumedAway : Marks → ℕ → Type 0
IsAssumedAway m l = negated l < width_of m → IsMarked m (negated l)

-- the negation of each literal of a clause is marked, where it can be
abbrev pub IsAssumed : List ℕ → Marks → Type 0
IsAssumed c m = EachIndex c (λ k. IsAssumedAway m (slice_index c k))

-- where a clause is false, and the literals that were marked are true, those that are marked now are true too
abbrev pub MarksAssume : List ℕ → Marks → Marks → Type 0
MarksAssume c old new = (v : Truths) → clause_truth v c ≡ false → MarksHold v old → MarksHold v new

-- a clause is true wherever the marked literals are
abbrev pub IsImplied : List ℕ → Marks → Type 0
IsImplied c m = (v : Truths) → MarksHold v m → clause_truth v c ≡ true
