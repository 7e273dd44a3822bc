use Rattle.std.proofs.Common.{length}
use Rattle.smt_blast.proofs.gates.Gates.+equal.Given as goal

abbrev pub decreases-equal : goal.decreases-equal
decreases-equal l = length l.xs.now
