-- What marks are after some steps.
use Rattle.std.specs.Prelude.{◌≡◌, ℕ, Bool, List, false}
use Rattle.law_clauses.specs.Clauses.{Truths, Solves}
use Rattle.smt_clauses.specs.Marked.{IsKept, MarksHold}
use Rattle.smt_clauses.specs.declared.marks.Marks.{Marks}

-- the marks follow from clauses and earlier marks, and those for good are earlier ones but where marks are made for good
pub record Follows (cs : List (List ℕ)) (for_good : Bool) (m n : Marks) : Type 0 where
  pub marks : (v : Truths) → Solves v cs → MarksHold v m → MarksHold v n
  pub kept : for_good ≡ false → (k : ℕ) → IsKept n k → IsKept m k

-- no truths solve the clauses and make the marked literals true
abbrev pub IsRuledOut : List (List ℕ) → Marks → Type 0
IsRuledOut cs m = (v : Truths) → Solves v cs → MarksHold v m → ⊥
