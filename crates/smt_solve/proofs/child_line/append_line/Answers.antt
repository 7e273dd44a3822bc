use Rattle.smt_solve.proofs.LineLemmas.{ends_part, grows_part}
use Rattle.smt_solve.proofs.child_line.append_line.Goals as goal

pub loop-preserved : goal.loop-preserved
loop-preserved g c = grows_part _ _ _ _ _ _ _ _ _ _ c.in-More.is c.loop.invariant c.in_ok-count.ensures

pub returns-in-Ended : goal.returns-in-Ended
returns-in-Ended g c = ends_part _ _ _ _ _ _ _ _ _ _ c.in-Ended.is c.loop.invariant c.in_ok-count.ensures
