use Rattle.std.proofs.Common.{length}
use Rattle.smt_blast.proofs.gates.Gates.+choose.Given as goal

abbrev pub decreases-choose : goal.decreases-choose
decreases-choose l = length l.xs.now
