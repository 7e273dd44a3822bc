use Rattle.std.proofs.lemmas.Result.{IfOk-weaker}
use Rattle.smt_factory_core.proofs.FoldingStrings.{stands_for_string_like}
use Rattle.smt_factory_core.proofs.strings.string_like.Goals as goal
use Rattle.smt_term.specs.PatternView.{plain_ord_pattern}
use Rattle.smt_term.specs.View.{plain_term}

pub returns-clause-refines : goal.returns-clause-refines
returns-clause-refines c = IfOk-weaker c.folded_string_like.result _ _ (λ r h. stands_for_string_like (plain_term r) (plain_term c.args.t) (plain_ord_pattern c.args.p) h) c.folded_string_like.ensures
