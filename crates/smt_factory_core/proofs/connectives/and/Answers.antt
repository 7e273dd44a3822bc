use Rattle.std.proofs.lemmas.Result.{IfOk-weaker}
use Rattle.smt_factory_core.proofs.FoldingConnectives.{stands_for_and}
use Rattle.smt_factory_core.proofs.connectives.and.Goals as goal
use Rattle.smt_term.specs.View.{plain_term}

pub returns-clause-refines : goal.returns-clause-refines
returns-clause-refines c = IfOk-weaker c.folded_and.result _ _ (λ r h. stands_for_and (plain_term r) (plain_term c.args.t1) (plain_term c.args.t2) h) c.folded_and.ensures
