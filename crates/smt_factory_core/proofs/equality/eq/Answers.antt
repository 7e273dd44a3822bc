use Rattle.std.proofs.lemmas.Result.{IfOk-weaker}
use Rattle.smt_factory_core.proofs.FoldingEquality.{stands_for_eq}
use Rattle.smt_factory_core.proofs.equality.eq.Goals as goal
use Rattle.smt_term.specs.View.{plain_term}

pub returns-clause-refines : goal.returns-clause-refines
returns-clause-refines c = IfOk-weaker c.folded_eq.result _ _ (λ r h. stands_for_eq (plain_term r) (plain_term c.args.t1) (plain_term c.args.t2) h) c.folded_eq.ensures
