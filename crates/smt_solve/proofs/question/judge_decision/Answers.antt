use Rattle.smt_solve.specs.Answers.{IsNoDecision, StripsTo, decision_word}
use Rattle.smt_solve.proofs.QuestionLemmas.{line_judged, not_empty}
use Rattle.smt_solve.proofs.question.judge_decision.Goals as goal

pub returns-in-None-clause-judges : goal.returns-in-None-clause-judges
returns-in-None-clause-judges g c =
    line_judged (λ d. StripsTo c.args.line.now (decision_word d)) IsNoDecision c.strip-text.ensures
    (not_empty c.args.line.now _ c.is_empty.ensures c.if-is_empty.false) c.in-None.ensures c.refuse_text.ensures.refuses
