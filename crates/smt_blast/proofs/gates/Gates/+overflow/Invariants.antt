use Rattle.std.proofs.Common.{length}
use Rattle.smt_blast.proofs.gates.Gates.+overflow.Given as goal

abbrev pub decreases-overflow : goal.decreases-overflow
decreases-overflow l = length l.xs.now
