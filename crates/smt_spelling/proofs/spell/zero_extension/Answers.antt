use Rattle.std.proofs.Common.{◌++◌, ap, ◌∙◌, arith}
use Rattle.std.proofs.lemmas.Result.{IfOk-weaker}
use Rattle.std.specs.Prelude.{codes}
use Rattle.smt_spelling.proofs.Numbered.{extension_spelled}
use Rattle.smt_spelling.proofs.spell.zero_extension.Goals as goal

pub returns : goal.returns
returns c =
    let same = ap (λ d. codes "(_ zero_extend " ++ (d ++ codes ")")) c.format.ensures.text ∙ extension_spelled c.args.bits (omega (arith, c.ranges.bits)) in
    IfOk-weaker c.concat.result _ _ (λ t e. e ∙ same) c.concat.ensures
