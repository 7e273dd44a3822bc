use Rattle.smt_factory_core.proofs.rule.bvapp_by.Goals as goal

pub bvapp-requires : goal.bvapp-requires
bvapp-requires g c = c.requires.callable

pub returns-clause-folded : goal.returns-clause-folded
returns-clause-folded g c = rw c.in_ok-share.ensures at c.bvapp.ensures.folded

pub returns-clause-refines : goal.returns-clause-refines
returns-clause-refines g c = (rw c.in_ok-share.ensures at c.bvapp.ensures.refines) c.requires.answers
