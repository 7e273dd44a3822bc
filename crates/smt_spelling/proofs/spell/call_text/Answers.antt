use Rattle.std.proofs.Common.{◌∙◌}
use Rattle.std.proofs.lemmas.Result.{IfOk-weaker}
use Rattle.law_texts.specs.SharedTexts.{texts}
use Rattle.smt_spelling.proofs.Bracketed.{bracketed}
use Rattle.smt_spelling.proofs.spell.call_text.Goals as goal

pub returns : goal.returns
returns c f es named shown = IfOk-weaker c.application_text.result _ _ (λ t g. g ∙ bracketed c.args.function.now f (texts c.args.operands.now) es named shown) c.application_text.ensures
