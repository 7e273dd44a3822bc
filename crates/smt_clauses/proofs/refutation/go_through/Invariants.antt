use Rattle.smt_clauses.specs.Allowed.{Keeps}
use Rattle.smt_clauses.proofs.refutation.go_through.Given as goal

abbrev pub invariant-loop-place : goal.invariant-loop-place
invariant-loop-place l = Keeps l.fn.checker l.checker
