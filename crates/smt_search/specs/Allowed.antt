-- Which truths a ledger leaves.
use Rattle.std.specs.Prelude.{◌≡◌, ℕ, List, false, true}
use Rattle.law_clauses.specs.Clauses.{Truths, Solves, clause_truth}
use Rattle.smt_clauses.specs.Marked.{KeptHold}
use Rattle.smt_clauses.specs.View.{plain_clauses}
use Rattle.smt_search.specs.declared.ledger.Ledger.{Ledger}

-- truths make each clause true and each literal that is marked for good, and the clauses are not refuted
pub record Allows (v : Truths) (c : Ledger) : Type 0 where
  pub clauses : Solves v (plain_clauses c.clauses)
  pub kept : KeptHold v c.marks
  pub left : c.refuted ≡ false

-- truths that one ledger leaves are left by another
abbrev pub KeepsTruths : Ledger → Ledger → Type 0
KeepsTruths c d = (v : Truths) → Allows v c → Allows v d

-- all truths that solve these clauses are left
abbrev pub LeavesSolutions : List (List ℕ) → Ledger → Type 0
LeavesSolutions cs d = (v : Truths) → Solves v cs → Allows v d

-- where one ledger leaves all truths that solve these clauses, another does
abbrev pub AddsOf : List (List ℕ) → Ledger → Ledger → Type 0
AddsOf cs c d = LeavesSolutions cs c → LeavesSolutions cs d

-- where a clause is true, truths that one ledger leaves are left by another
abbrev pub AddsClause : List ℕ → Ledger → Ledger → Type 0
AddsClause clause c d = (v : Truths) → Allows v c → clause_truth v clause ≡ true → Allows v d

-- a clause is true under all truths that a ledger leaves
abbrev pub Implies : Ledger → List ℕ → Type 0
Implies c clause = (v : Truths) → Allows v c → clause_truth v clause ≡ true
