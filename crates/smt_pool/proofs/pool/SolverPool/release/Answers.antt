use Rattle.std.proofs.Common.{refl, sym}
use Rattle.smt_pool.proofs.pool.SolverPool.release.Goals as goal

pub returns-in-Ok-clause-kept : goal.returns-in-Ok-clause-kept
returns-in-Ok-clause-kept g c = λ _. record {
  unfailed = sym c.if-is_failed.ensures;
  session = c.reset_session.new.session;
  last = c.push_back_reserved.ensures.items;
  reset = c.in-Ok.ensures.resets.sent;
  spared = c.in-Ok.ensures.resets.spared;
  told = c.in-Ok.ensures.resets.told;
  over = c.in-Ok.ensures.resets.over;
  same_allows = c.in-Ok.ensures.allows;
  same_starter = refl;
}
