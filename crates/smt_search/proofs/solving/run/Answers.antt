use Rattle.std.proofs.Common.{arith}
use Rattle.smt_search.proofs.solving.run.Goals as goal

pub returns-in_default : goal.returns-in_default
returns-in_default c = record {
  ledger = λ v a. c.in_ok-last.ensures.ledger v (c.loop.invariant.ledger v a);
  spent = c.in_ok-last.ensures.spent;
  limit = omega (arith, c.go_on.ensures.limit, c.loop.invariant.limit);
}

pub loop-preserved : goal.loop-preserved
loop-preserved c = record {
  ledger = λ v a. c.in_ok-last.ensures.ledger v (c.loop.invariant.ledger v a);
  limit = omega (arith, c.go_on.ensures.limit, c.loop.invariant.limit);
}
