use Rattle.smt_solve.proofs.QuestionLemmas.{message_refuses}
use Rattle.smt_solve.proofs.question.refuse_text.Goals as goal

pub returns-in-Some-clause-refuses : goal.returns-in-Some-clause-refuses
returns-in-Some-clause-refuses g c = message_refuses c.in-Some.ensures c.tell_error.ensures.tells
