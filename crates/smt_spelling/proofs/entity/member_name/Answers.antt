use Rattle.std.proofs.Common.{◌++◌, ap, ◌∙◌, append-nil, arith}
use Rattle.std.proofs.lemmas.Result.{IfOk-weaker}
use Rattle.std.specs.Prelude.{codes}
use Rattle.smt_spelling.proofs.Members.{member_printed}
use Rattle.smt_spelling.proofs.entity.member_name.Goals as goal

pub returns : goal.returns
returns c =
    let same = ap (λ d. c.args.sort.now ++ (codes "_m" ++ d)) (append-nil c.format.result.now ∙ c.format.ensures.text) ∙ member_printed c.args.sort.now c.args.place (omega (arith, c.ranges.place)) in
    IfOk-weaker c.from_string.result _ _ (λ t e. e ∙ c.in_ok-concat.ensures ∙ same) c.from_string.ensures.ok
