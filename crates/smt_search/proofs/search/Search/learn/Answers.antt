use Rattle.smt_search.proofs.search.Search.learn.Goals as goal

pub returns-then-not-branch : goal.returns-then-not-branch
returns-then-not-branch c v a = c.in_ok-learn-2.ensures v (c.fix_all.ensures v a)

pub returns : goal.returns
returns c v a = c.in_ok-learn-2.ensures v (c.fix_all.ensures v a)
