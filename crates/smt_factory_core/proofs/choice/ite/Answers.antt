use Rattle.std.proofs.lemmas.Result.{IfOk-weaker}
use Rattle.smt_factory_core.proofs.FoldingEquality.{stands_for_ite}
use Rattle.smt_factory_core.proofs.choice.ite.Goals as goal
use Rattle.smt_term.specs.View.{plain_term}

pub returns-clause-refines : goal.returns-clause-refines
returns-clause-refines c = IfOk-weaker c.folded_ite.result _ _ (λ r h. stands_for_ite (plain_term r) (plain_term c.args.t1) (plain_term c.args.t2) (plain_term c.args.t3) h) c.folded_ite.ensures
