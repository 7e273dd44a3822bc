use Rattle.smt_clauses.specs.Allowed.{AllowsSolutions}
use Rattle.smt_clauses.specs.View.{plain_clauses}
use Rattle.smt_clauses.proofs.refutation.formula_of.Given as goal

abbrev pub invariant-loop-place : goal.invariant-loop-place
invariant-loop-place l = AllowsSolutions (plain_clauses l.formula) l.checker
