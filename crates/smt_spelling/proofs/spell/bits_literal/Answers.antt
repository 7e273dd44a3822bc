use Rattle.std.proofs.Common.{◌++◌, ap, ◌∙◌, arith}
use Rattle.std.proofs.lemmas.Result.{IfOk-weaker}
use Rattle.std.specs.Prelude.{codes, decimal}
use Rattle.smt_spelling.proofs.Numbered.{bits_spelled, short_enough}
use Rattle.smt_spelling.proofs.spell.bits_literal.Goals as goal

pub returns : goal.returns
returns c =
    let number = ap (λ d. codes "(_ bv" ++ (d ++ (codes " " ++ (c.format-width.result.now ++ codes ")")))) c.format-number.ensures.text in
    let width = ap (λ d. codes "(_ bv" ++ (decimal c.to_nat.result ++ (codes " " ++ (d ++ codes ")")))) c.format-width.ensures.text in
    let same = bits_spelled c.to_nat.result c.get.result _ _ c.to_nat.ensures.value (c.get.ensures.value ∙ c.width.ensures) (short_enough _ _ c.to_nat.ensures.below c.args.bits.now.width.at_most_128) (omega (arith, c.get.ensures.most)) in
    IfOk-weaker c.from_string.result _ _ (λ t e. e ∙ c.in_ok-concat.ensures ∙ number ∙ width ∙ same) c.from_string.ensures.ok
