use Rattle.std.proofs.Common.{rules}
use Rattle.smt_sexpr.proofs.Shapes.{sole_few, sole_many}
use Rattle.smt_sexpr.proofs.parts.sole.Goals as goal
use Rattle.smt_sexpr.proofs.parts.sole.Goals.{in_default-via-then-items-lt1, in_default-via-else-items-lt1+else-items-lt2}

pub returns-in_default : goal.returns-in_default
returns-in_default c = elim c.in_default.branch [
  | in_default-via-then-items-lt1 w ↦ sole_few _ (search rules)
  | in_default-via-else-items-lt1+else-items-lt2 w ↦ sole_many _ (search rules)
]
