use Rattle.std.proofs.lemmas.Result.{IfOk-weaker}
use Rattle.smt_factory_core.proofs.Folding.{stands_for_bvneg}
use Rattle.smt_factory_core.proofs.bits.bvneg.Goals as goal
use Rattle.smt_term.specs.View.{plain_term}

pub returns-clause-folded : goal.returns-clause-folded
returns-clause-folded c = c.folded_bvneg.ensures

pub returns-clause-refines : goal.returns-clause-refines
returns-clause-refines c = IfOk-weaker c.folded_bvneg.result _ _ (λ r h. stands_for_bvneg (plain_term r) (plain_term c.args.t) h) c.folded_bvneg.ensures
