use Rattle.std.proofs.Common.{length}
use Rattle.smt_nodes.proofs.label_order.+attributes_difference.Given as goal

abbrev pub decreases-attributes_difference : goal.decreases-attributes_difference
decreases-attributes_difference l = length l.names.now
