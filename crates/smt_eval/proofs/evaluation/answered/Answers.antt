use Rattle.std.proofs.Common.{option_map, rules}
use Rattle.smt_term.specs.View.{plain_op, plain_term}
use Rattle.smt_eval.specs.AssignmentView.{plain_assignment}
use Rattle.smt_eval.proofs.Answered.{few_answers, many_answers, two_answers}
use Rattle.smt_eval.proofs.evaluation.answered.Goals as goal
use Rattle.smt_eval.proofs.evaluation.answered.Goals.{in_default-via-then-values-lt1, in_default-via-else-values-lt1+else-values-lt2+else-values-lt3}

pub returns-in-len2-clause-answer : goal.returns-in-len2-clause-answer
returns-in-len2-clause-answer c =
    two_answers (plain_assignment c.args.given.now) (plain_op c.args.op.now) c.args.values.now c.left-item.result c.right-item.result (option_map plain_term c.answered_at_two.result) c.in-len2.len_at_least c.in-len2.len_below c.left-item.is c.right-item.is (c.answered_at_two.ensures (plain_assignment c.args.given.now))

pub returns-in_default-clause-answer : goal.returns-in_default-clause-answer
returns-in_default-clause-answer c = elim c.in_default.branch [
  | in_default-via-then-values-lt1 w ↦ few_answers (plain_assignment c.args.given.now) (plain_op c.args.op.now) c.args.values.now (search rules)
  | in_default-via-else-values-lt1+else-values-lt2+else-values-lt3 w ↦ many_answers (plain_assignment c.args.given.now) (plain_op c.args.op.now) c.args.values.now (search rules)
]
