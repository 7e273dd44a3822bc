use Rattle.std.proofs.Common.{length}
use Rattle.smt_blast.proofs.gates.Gates.+borrow_out.Given as goal

abbrev pub decreases-borrow_out : goal.decreases-borrow_out
decreases-borrow_out l = length l.xs.now
