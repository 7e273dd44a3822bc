use Rattle.smt_solve.specs.Answers.{StripsTo, opening}
use Rattle.smt_solve.specs.Model.{IsNotOpening}
use Rattle.smt_solve.proofs.QuestionLemmas.{line_judged, not_empty}
use Rattle.smt_solve.proofs.model.judge_opening.Goals as goal

pub returns-clause-judges : goal.returns-clause-judges
returns-clause-judges g c =
    line_judged {T = Unit {0}} (λ _. StripsTo c.args.line.now opening) IsNotOpening c.strip-text.ensures
    (not_empty c.args.line.now _ c.is_empty.ensures c.if-is_empty.false) (rw c.if-is_opening.false at c.is_opening.ensures) c.refuse_text.ensures.refuses
