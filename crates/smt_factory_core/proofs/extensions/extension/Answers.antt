use Rattle.std.proofs.lemmas.Result.{IfOk-weaker}
use Rattle.smt_factory_core.proofs.FoldingExtensions.{stands_for_extension}
use Rattle.smt_factory_core.proofs.extensions.extension.Goals as goal
use Rattle.smt_term.specs.ExtensionView.{plain_extension_op}
use Rattle.smt_term.specs.View.{plain_term}

pub returns-clause-refines : goal.returns-clause-refines
returns-clause-refines c = IfOk-weaker c.folded_extension.result _ _ (λ r h. stands_for_extension (plain_term r) (plain_extension_op c.args.op) (plain_term c.args.t) h) c.folded_extension.ensures
