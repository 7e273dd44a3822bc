use Rattle.smt_search.specs.Allowed.{KeepsTruths}
use Rattle.smt_search.proofs.search.Search.fix_all.Given as goal

abbrev pub invariant-loop-at : goal.invariant-loop-at
invariant-loop-at l = KeepsTruths l.fn.ledger l.ledger
