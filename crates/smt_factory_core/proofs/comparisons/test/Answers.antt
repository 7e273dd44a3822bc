use Rattle.smt_factory_core.proofs.comparisons.test.Goals as goal

pub returns : goal.returns
returns g c = c.folded_by.ensures
