use Rattle.std.proofs.Common.{rules}
use Rattle.smt_sexpr.proofs.Shapes.{three_few, three_many}
use Rattle.smt_sexpr.proofs.parts.three.Goals as goal
use Rattle.smt_sexpr.proofs.parts.three.Goals.{in_default-via-then-items-lt3, in_default-via-else-items-lt3+else-items-lt4}

pub returns-in_default : goal.returns-in_default
returns-in_default c = elim c.in_default.branch [
  | in_default-via-then-items-lt3 w ↦ three_few _ (search rules)
  | in_default-via-else-items-lt3+else-items-lt4 w ↦ three_many _ (search rules)
]
