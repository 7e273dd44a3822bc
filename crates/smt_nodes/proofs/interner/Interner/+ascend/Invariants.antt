use Rattle.std.proofs.Common.{length}
use Rattle.smt_nodes.proofs.interner.Interner.+ascend.Given as goal

abbrev pub decreases-ascend : goal.decreases-ascend
decreases-ascend l = length l.ids.now
