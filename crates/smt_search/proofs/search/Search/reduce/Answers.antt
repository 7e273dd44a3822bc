use Rattle.smt_search.proofs.search.Search.reduce.Goals as goal

pub returns : goal.returns
returns c v a = c.in_ok-settle_in.ensures v (c.in_ok-keep.ensures v (c.fix_all.ensures v a))
