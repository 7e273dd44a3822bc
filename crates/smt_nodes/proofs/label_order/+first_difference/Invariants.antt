use Rattle.std.proofs.Common.{length}
use Rattle.smt_nodes.proofs.label_order.+first_difference.Given as goal

abbrev pub decreases-first_difference : goal.decreases-first_difference
decreases-first_difference l = length l.xs.now
