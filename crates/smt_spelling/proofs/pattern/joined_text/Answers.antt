use Rattle.std.proofs.Common.{◌∙◌}
use Rattle.std.proofs.lemmas.Result.{IfOk-weaker}
use Rattle.smt_spelling.proofs.Patterned.{joined}
use Rattle.smt_spelling.proofs.pattern.joined_text.Goals as goal

pub returns-in_ok-application_text-in_default : goal.returns-in_ok-application_text-in_default
returns-in_ok-application_text-in_default c ps shown =
    IfOk-weaker c.from_string.result _ _ (λ t e. e ∙ c.in_ok-application_text-in_default.ensures ∙ joined ps c.args.parts.now shown c.in_default.len_at_least) c.from_string.ensures.ok
