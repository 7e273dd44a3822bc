use Rattle.std.proofs.Common.{◌≤◌, length, ◌∙◌, arith}
use Rattle.std.proofs.lemmas.Grind.{common_steps}
use Rattle.std.proofs.lemmas.Result.{IfOk-weaker}
use Rattle.smt_spelling.proofs.Patterned.{set_spelled}
use Rattle.smt_spelling.proofs.spell.set_text.Goals as goal

pub returns : goal.returns
returns c e es sort shown =
    let filled : 1 ≤ length c.args.elements.items = grind (arith, common_steps) in
    let same = set_spelled e es c.args.elements.items c.as_slice.result.now c.in_ok-from_string.field-0 shown filled (c.as_slice.ensures.value ∙ c.in_ok-push.ensures.items) (c.in_ok-from_string.ensures.ok ∙ c.in_ok-empty.ensures e sort) in
    IfOk-weaker c.application_text.result _ _ (λ t f. f ∙ same) c.application_text.ensures
