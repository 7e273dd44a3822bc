use Rattle.std.proofs.lemmas.Result.{IfOk-weaker}
use Rattle.smt_factory_core.proofs.FoldingInside.{stands_for_option_get}
use Rattle.smt_factory_core.proofs.inside.option_get.Goals as goal
use Rattle.smt_term.specs.View.{plain_term}

pub returns-clause-refines : goal.returns-clause-refines
returns-clause-refines c = IfOk-weaker c.folded_option_get.result _ _ (λ r h. stands_for_option_get (plain_term r) (plain_term c.args.t) h) c.folded_option_get.ensures
