use Rattle.smt_clauses.specs.View.{plain_clauses}
use Rattle.smt_search.specs.Allowed.{LeavesSolutions}
use Rattle.smt_search.proofs.solving.ledger_of.Given as goal

abbrev pub invariant-loop-place : goal.invariant-loop-place
invariant-loop-place l = LeavesSolutions (plain_clauses l.formula) l.ledger
