use Rattle.std.proofs.Common.{◌++◌, ap, ◌∙◌, arith}
use Rattle.std.proofs.lemmas.Result.{IfOk-weaker}
use Rattle.std.specs.Prelude.{codes}
use Rattle.smt_spelling.proofs.Numbered.{sort_spelled}
use Rattle.smt_spelling.proofs.spell.bits_sort.Goals as goal

pub returns : goal.returns
returns c =
    let digits = ap (λ d. codes "(_ BitVec " ++ (d ++ codes ")")) c.format-width.ensures.text in
    let same = digits ∙ sort_spelled c.get.result _ c.get.ensures.value (omega (arith, c.get.ensures.most)) in
    IfOk-weaker c.from_string.result _ _ (λ t e. e ∙ c.in_ok-concat.ensures ∙ same) c.from_string.ensures.ok
