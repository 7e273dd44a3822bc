use Rattle.smt_term.specs.View.{plain_term}
use Rattle.smt_eval.specs.AssignmentView.{plain_assignment}
use Rattle.smt_eval.proofs.Answered.{no_none}
use Rattle.smt_eval.proofs.evaluation.at_none.Goals as goal

pub returns-in_default : goal.returns-in_default
returns-in_default c = record { answer = no_none (plain_assignment c.args.given.now) (plain_term c.args.value.now) c.in_default.ensures; refusal = tt }
