use Rattle.std.proofs.lemmas.Result.{IfOk-weaker}
use Rattle.smt_factory_core.proofs.FoldingConnectives.{stands_for_not}
use Rattle.smt_factory_core.proofs.connectives.not.Goals as goal
use Rattle.smt_term.specs.View.{plain_term}

pub returns-clause-refines : goal.returns-clause-refines
returns-clause-refines c = IfOk-weaker c.folded_not.result _ _ (λ r h. stands_for_not (plain_term r) (plain_term c.args.t) h) c.folded_not.ensures
