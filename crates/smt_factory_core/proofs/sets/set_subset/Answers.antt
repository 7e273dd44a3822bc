use Rattle.std.proofs.lemmas.Result.{IfOk-weaker}
use Rattle.smt_factory_core.proofs.FoldingSets.{stands_for_set_subset}
use Rattle.smt_factory_core.proofs.sets.set_subset.Goals as goal
use Rattle.smt_term.specs.View.{plain_term}

pub returns-clause-refines : goal.returns-clause-refines
returns-clause-refines c = IfOk-weaker c.folded_set_subset.result _ _ (λ r h. stands_for_set_subset (plain_term r) (plain_term c.args.sub) (plain_term c.args.sup) h) c.folded_set_subset.ensures
