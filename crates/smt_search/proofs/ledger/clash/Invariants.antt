use Rattle.std.specs.Prelude.{false}
use Rattle.smt_clauses.specs.Loops.{Follows}
use Rattle.smt_clauses.specs.View.{plain_clauses}
use Rattle.smt_search.proofs.ledger.clash.Given as goal

abbrev pub invariant-loop-link : goal.invariant-loop-link
invariant-loop-link l = Follows (plain_clauses l.clauses) false l.fn.marks l.marks
