use Rattle.std.proofs.lemmas.Result.{IfOk-weaker}
use Rattle.smt_factory_core.proofs.FoldingSets.{stands_for_set_inter}
use Rattle.smt_factory_core.proofs.sets.set_inter.Goals as goal
use Rattle.smt_term.specs.View.{plain_term}

pub returns-clause-refines : goal.returns-clause-refines
returns-clause-refines c = IfOk-weaker c.folded_set_inter.result _ _ (λ r h. stands_for_set_inter (plain_term r) (plain_term c.args.ts1) (plain_term c.args.ts2) h) c.folded_set_inter.ensures
