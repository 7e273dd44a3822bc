use Rattle.std.proofs.lemmas.Result.{IfOk-weaker}
use Rattle.smt_factory_core.proofs.FoldingSets.{stands_for_set_member}
use Rattle.smt_factory_core.proofs.sets.set_member.Goals as goal
use Rattle.smt_term.specs.View.{plain_term}

pub returns-clause-refines : goal.returns-clause-refines
returns-clause-refines c = IfOk-weaker c.folded_set_member.result _ _ (λ r h. stands_for_set_member (plain_term r) (plain_term c.args.t) (plain_term c.args.ts) h) c.folded_set_member.ensures
