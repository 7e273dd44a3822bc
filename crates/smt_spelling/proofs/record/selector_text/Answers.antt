use Rattle.std.proofs.Common.{◌++◌, ap, ◌∙◌, arith}
use Rattle.std.proofs.lemmas.Result.{IfOk-weaker}
use Rattle.std.specs.Prelude.{codes}
use Rattle.smt_spelling.proofs.Records.{selector_bracketed}
use Rattle.smt_spelling.proofs.record.selector_text.Goals as goal

pub returns : goal.returns
returns c =
    let digits = ap (λ d. codes "(" ++ (c.args.name.now ++ (codes "_a" ++ (d ++ (codes " " ++ (c.args.sort.now ++ codes ")")))))) c.format-place.ensures.text in
    let same = digits ∙ selector_bracketed c.args.name.now c.args.place c.args.sort.now (omega (arith, c.ranges.place)) in
    IfOk-weaker c.from_string.result _ _ (λ t e. e ∙ c.in_ok-concat.ensures ∙ same) c.from_string.ensures.ok
