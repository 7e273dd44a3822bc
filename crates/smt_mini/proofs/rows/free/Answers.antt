use Rattle.std.proofs.Common.{arith}
use Rattle.smt_mini.proofs.RowBits.{free_either}
use Rattle.smt_mini.proofs.rows.free.Goals as goal

pub returns-else-total-place-le-LANES : goal.returns-else-total-place-le-LANES
returns-else-total-place-le-LANES c r l = free_either c.args.total r c.args.place l (omega (arith, c.if-place-total.false, c.if-total-place-le-LANES.false))
