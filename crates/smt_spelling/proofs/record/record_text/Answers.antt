use Rattle.std.proofs.Common.{◌≤◌, length, ◌∙◌, arith}
use Rattle.std.proofs.lemmas.Grind.{common_steps}
use Rattle.std.proofs.lemmas.Result.{IfOk-weaker}
use Rattle.smt_spelling.proofs.Records.{record_spelled}
use Rattle.smt_spelling.proofs.record.record_text.Goals as goal

pub returns : goal.returns
returns c e es sort shown =
    let filled : 1 ≤ length c.args.fields.now = grind (arith, common_steps) in
    IfOk-weaker c.application_text.result _ _ (λ t f. f ∙ record_spelled c.args.sort.now e es c.args.fields.now sort shown filled) c.application_text.ensures
