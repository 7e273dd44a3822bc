use Rattle.smt_search.specs.Clauses.{AreImplied}
use Rattle.smt_search.proofs.ledger.kept.Given as goal

abbrev pub invariant-loop-place : goal.invariant-loop-place
invariant-loop-place l = AreImplied l.clauses l.copy
