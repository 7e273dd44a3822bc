use Rattle.std.proofs.Common.{◌++◌, ap, ◌∙◌, arith}
use Rattle.std.proofs.lemmas.Result.{IfOk-weaker}
use Rattle.std.specs.Prelude.{codes}
use Rattle.smt_spelling.proofs.Members.{member_bracketed}
use Rattle.smt_spelling.proofs.entity.member_constructor.Goals as goal

pub returns : goal.returns
returns c =
    let same = ap (λ d. codes "(" ++ (c.args.name.now ++ (codes "_m" ++ (d ++ codes ")")))) c.format.ensures.text ∙ member_bracketed c.args.name.now c.args.place (omega (arith, c.ranges.place)) in
    IfOk-weaker c.from_string.result _ _ (λ t e. e ∙ c.in_ok-concat.ensures ∙ same) c.from_string.ensures.ok
