use Rattle.std.proofs.Common.{ap, ◌∙◌}
use Rattle.std.proofs.lemmas.Result.{IfOk-weaker}
use Rattle.law_texts.specs.SharedTexts.{texts}
use Rattle.smt_spelling.proofs.Records.{constructor_bracketed}
use Rattle.smt_spelling.proofs.record.record_constructor.Goals as goal

pub returns : goal.returns
returns c es shown =
    let made = ap texts c.as_slice.ensures.value ∙ c.in_ok-selectors.ensures es shown in
    IfOk-weaker c.from_string.result _ _ (λ t e. e ∙ c.in_ok-application_text.ensures ∙ constructor_bracketed c.args.name.now es _ made) c.from_string.ensures.ok
