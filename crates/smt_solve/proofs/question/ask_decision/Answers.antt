use Rattle.smt_solve.proofs.QuestionLemmas.{runner_asked}
use Rattle.smt_solve.proofs.question.ask_decision.Goals as goal

pub returns-clause-asks : goal.returns-clause-asks
returns-clause-asks g c = runner_asked _ c.ask_runner.result c.ask_running.ensures.allows.back c.in_ok-ask_running.ensures.asks c.ask_runner.ensures.asks
