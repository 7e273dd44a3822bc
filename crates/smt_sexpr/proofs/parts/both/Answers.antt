use Rattle.std.proofs.Common.{rules}
use Rattle.smt_sexpr.proofs.Shapes.{both_few, both_many}
use Rattle.smt_sexpr.proofs.parts.both.Goals as goal
use Rattle.smt_sexpr.proofs.parts.both.Goals.{in_default-via-then-items-lt2, in_default-via-else-items-lt2+else-items-lt3}

pub returns-in_default : goal.returns-in_default
returns-in_default c = elim c.in_default.branch [
  | in_default-via-then-items-lt2 w ↦ both_few _ (search rules)
  | in_default-via-else-items-lt2+else-items-lt3 w ↦ both_many _ (search rules)
]
