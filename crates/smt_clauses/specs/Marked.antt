-- Which literals are marked.
use Rattle.std.specs.Prelude.{◌≡◌, ◌≢◌, ◌≤◌, ◌⊎◌, ℕ, List, Contains, EachIndex, slice_index, true, vec_len}
use Rattle.law_clauses.specs.Clauses.{Truths, literal_truth, negated}
use Rattle.smt_clauses.specs.declared.marks.Marks.{Marks}

-- a literal is marked
abbrev pub IsMarked : Marks → ℕ → Type 0
IsMarked m l = m.epoch ≤ slice_index m.stamps.items l

-- a literal is marked for good
abbrev pub IsKept : Marks → ℕ → Type 0
IsKept m l = 4294967295 ≤ slice_index m.stamps.items l

-- the marked literals are true
abbrev pub MarksHold : Truths → Marks → Type 0
MarksHold v m = (l : ℕ) → IsMarked m l → literal_truth v l ≡ true

-- the literals that are marked for good are true
abbrev pub KeptHold : Truths → Marks → Type 0
KeptHold v m = (l : ℕ) → IsKept m l → literal_truth v l ≡ true

-- a literal is this other one or is false by the marks
abbrev pub IsOut : Marks → ℕ → ℕ → Type 0
IsOut m other l = (l ≡ other) ⊎ IsMarked m (negated l)

-- each literal of a clause is this other one or false by the marks
abbrev pub AllAreOut : List ℕ → Marks → ℕ → Type 0
AllAreOut c m other = EachIndex c (λ k. IsOut m other (slice_index c k))

-- a literal of a clause is neither this other one nor false by the marks
pub record IsFree (c : List ℕ) (m : Marks) (other l : ℕ) : Type 0 where
  pub stands : Contains c l
  pub apart : l ≢ other
  pub open_yet : ¬ IsMarked m (negated l)

-- no literal but this one came to be marked
abbrev pub AddsMark : Marks → Marks → ℕ → Type 0
AddsMark old new l = (k : ℕ) → IsMarked new k → IsMarked old k ⊎ (k ≡ l)

-- no mark is lost
abbrev pub KeepsMarks : Marks → Marks → Type 0
KeepsMarks old new = (k : ℕ) → IsMarked old k → IsMarked new k

-- no literal came to be marked for good
abbrev pub KeepsNoMore : Marks → Marks → Type 0
KeepsNoMore old new = (k : ℕ) → IsKept new k → IsKept old k

-- how many literals can be marked
abbrev pub width_of : Marks → ℕ
width_of m = vec_len m.stamps
