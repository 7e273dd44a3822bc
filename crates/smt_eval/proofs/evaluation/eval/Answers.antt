use Rattle.smt_eval.specs.AssignmentView.{plain_assignment}
use Rattle.smt_eval.proofs.Valued.{as_literal}
use Rattle.smt_eval.proofs.evaluation.eval.Goals as goal

pub returns-clause-value : goal.returns-clause-value
returns-clause-value c h = as_literal (plain_assignment c.args.given.now) c.args.t.now c.literal_of.result h (c.literal_of.ensures.evaluated h)
