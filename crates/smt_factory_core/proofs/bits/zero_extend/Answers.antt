use Rattle.std.proofs.lemmas.Result.{IfOk-weaker}
use Rattle.smt_factory_core.proofs.Folding.{stands_for_zero_extend}
use Rattle.smt_factory_core.proofs.bits.zero_extend.Goals as goal
use Rattle.smt_term.specs.View.{plain_term}

pub returns-clause-folded : goal.returns-clause-folded
returns-clause-folded c = c.folded_zero_extend.ensures

pub returns-clause-refines : goal.returns-clause-refines
returns-clause-refines c = IfOk-weaker c.folded_zero_extend.result _ _ (λ r h. stands_for_zero_extend (plain_term r) c.args.n (plain_term c.args.t) h) c.folded_zero_extend.ensures
