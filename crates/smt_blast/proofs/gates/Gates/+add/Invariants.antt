use Rattle.std.proofs.Common.{length}
use Rattle.smt_blast.proofs.gates.Gates.+add.Given as goal

abbrev pub decreases-add : goal.decreases-add
decreases-add l = length l.xs.now
