-- Which truths a checker leaves.
use Rattle.std.specs.Prelude.{◌≡◌, ℕ, List, false, true}
use Rattle.law_clauses.specs.Clauses.{Truths, Solves, clause_truth}
use Rattle.smt_clauses.specs.Marked.{KeptHold, MarksHold}
use Rattle.smt_clauses.specs.View.{plain_clauses}
use Rattle.smt_clauses.specs.declared.checker.Checker.{Checker}

-- truths make each clause true and each literal that is marked for good, and the clauses are not refuted
pub record Allows (v : Truths) (c : Checker) : Type 0 where
  pub clauses : Solves v (plain_clauses c.clauses)
  pub kept : KeptHold v c.marks
  pub left : c.refuted ≡ false

-- the same where no literals are marked but for good
pub record IsReady (v : Truths) (c : Checker) : Type 0 where
  pub clauses : Solves v (plain_clauses c.clauses)
  pub marks : MarksHold v c.marks
  pub left : c.refuted ≡ false

-- no truths are lost
abbrev pub Keeps : Checker → Checker → Type 0
Keeps old new = (v : Truths) → Allows v old → Allows v new

-- no truths are lost that make a clause true
abbrev pub KeepsWith : List ℕ → Checker → Checker → Type 0
KeepsWith c old new = (v : Truths) → Allows v old → clause_truth v c ≡ true → Allows v new

-- no truths are lost, and only literals for good are marked in both states
abbrev pub KeepsReady : Checker → Checker → Type 0
KeepsReady old new = (v : Truths) → IsReady v old → IsReady v new

-- the same of the truths that make a clause true
abbrev pub KeepsReadyWith : List ℕ → Checker → Checker → Type 0
KeepsReadyWith c old new = (v : Truths) → clause_truth v c ≡ true → IsReady v old → IsReady v new

-- all truths that are left make a clause true
abbrev pub Implies : Checker → List ℕ → Type 0
Implies checker c = (v : Truths) → Allows v checker → clause_truth v c ≡ true

-- each solution of a formula is left
abbrev pub AllowsSolutions : List (List ℕ) → Checker → Type 0
AllowsSolutions cs checker = (v : Truths) → Solves v cs → Allows v checker

-- no solution of a formula is lost
abbrev pub KeepsSolutions : List (List ℕ) → Checker → Checker → Type 0
KeepsSolutions cs old new = (v : Truths) → Solves v cs → Allows v old → Allows v new

-- no truths are left
abbrev pub AllowsNone : Checker → Type 0
AllowsNone checker = (v : Truths) → Allows v checker → ⊥
