use Rattle.std.proofs.Common.{rules}
use Rattle.smt_term.specs.View.{plain_op}
use Rattle.smt_term.proofs.TypedArguments.{not_taken}
use Rattle.smt_job_terms.proofs.Operators.{nothing_built, nothing_taken}
use Rattle.smt_job_terms.proofs.operator.built_from.Goals as goal
use Rattle.smt_job_terms.proofs.operator.built_from.Goals.{in_default-via-then-operands-lt1, in_default-via-else-operands-lt1+else-operands-lt2+else-operands-lt3+else-operands-lt4}

pub returns-in_default : goal.returns-in_default
returns-in_default c = elim c.in_default.branch [
  | in_default-via-then-operands-lt1 w ↦ nothing_built _ _ (nothing_taken (plain_op c.args.op.now) _ (search rules))
  | in_default-via-else-operands-lt1+else-operands-lt2+else-operands-lt3+else-operands-lt4 w ↦ nothing_built _ _ (not_taken (plain_op c.args.op.now) c.args.operands.now (search rules))
]
