use Rattle.std.proofs.Common.{length}
use Rattle.smt_blast.proofs.gates.Gates.+any_of.Given as goal

abbrev pub decreases-any_of : goal.decreases-any_of
decreases-any_of l = length l.bits.now
