use Rattle.smt_search.proofs.search.Search.fix_all.Goals as goal

pub loop-at-preserved : goal.loop-at-preserved
loop-at-preserved c v a = c.fix.ensures v (c.loop-at.invariant v a)
