use Rattle.smt_solve.proofs.AnswerLemmas.{blank_on}
use Rattle.std.proofs.Common.{arith, rules}
use Rattle.smt_solve.proofs.answer.blanks_in_front.Goals as goal

pub loop-at-preserved : goal.loop-at-preserved
loop-at-preserved c = record {
  within = omega arith;
  blanks = blank_on _ _ c.loop-at-test.true (search rules) c.loop-at.invariant.blanks;
}
