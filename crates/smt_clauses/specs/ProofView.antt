-- The steps of a proof.
use Rattle.std.specs.Prelude.{ℕ, Bool, List}
use Rattle.std.specs.List.{zip}
use Rattle.smt_clauses.specs.View.{plain_clauses}
use Rattle.smt_clauses.specs.declared.proof.Proof.{Proof}

-- the steps, in order: whether a clause is deleted, and the clause
abbrev pub plain_steps : Proof → List (Bool × List ℕ)
plain_steps p = zip p.deletes.items (plain_clauses p.clauses)
