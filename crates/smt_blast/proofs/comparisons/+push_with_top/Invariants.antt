use Rattle.std.proofs.Common.{length}
use Rattle.smt_blast.proofs.comparisons.+push_with_top.Given as goal

abbrev pub decreases-push_with_top : goal.decreases-push_with_top
decreases-push_with_top l = length l.xs.now
