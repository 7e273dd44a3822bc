use Rattle.smt_solve.proofs.AnswerLemmas.{blank_back}
use Rattle.std.proofs.Common.{arith, rules}
use Rattle.smt_solve.proofs.answer.blanks_at_end.Goals as goal

pub loop-end-preserved : goal.loop-end-preserved
loop-end-preserved c = record {
  within = omega arith;
  blanks = blank_back _ _ c.loop-end-test.true c.loop-end.invariant.within (search rules) c.loop-end.invariant.blanks;
}
