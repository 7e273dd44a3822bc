use Rattle.smt_search.proofs.search.Search.conclude.Goals as goal

pub returns : goal.returns
returns c v a = c.fix.ensures v (c.fix_all.ensures v a)
