use Rattle.std.proofs.Common.{length}
use Rattle.smt_blast.proofs.gates.Gates.+shift.Given as goal

abbrev pub decreases-shift : goal.decreases-shift
decreases-shift l = length l.amount.now
