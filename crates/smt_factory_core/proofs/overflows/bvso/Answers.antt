use Rattle.std.proofs.lemmas.Result.{IfOk-weaker}
use Rattle.smt_factory_core.proofs.Answers.{stands_by_overflow}
use Rattle.smt_factory_core.proofs.overflows.bvso.Goals as goal

pub returns-clause-folded : goal.returns-clause-folded
returns-clause-folded g c = c.folded_by.ensures

pub returns-clause-refines : goal.returns-clause-refines
returns-clause-refines g c tells = IfOk-weaker c.folded_by.result _ _ (λ r h. stands_by_overflow _ _ _ _ _ tells h) c.folded_by.ensures
