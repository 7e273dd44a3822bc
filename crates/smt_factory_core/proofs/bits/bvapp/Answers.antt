use Rattle.std.proofs.lemmas.Result.{IfOk-weaker}
use Rattle.smt_factory_core.proofs.Answers.{stands_by}
use Rattle.smt_factory_core.proofs.bits.bvapp.Goals as goal

pub returns-clause-folded : goal.returns-clause-folded
returns-clause-folded g c = c.folded_by.ensures

pub returns-clause-refines : goal.returns-clause-refines
returns-clause-refines g c values = IfOk-weaker c.folded_by.result _ _ (λ r h. stands_by _ _ _ _ _ values h) c.folded_by.ensures
