use Rattle.std.proofs.Common.{◌≡◌, ◌++◌, replicate}
use Rattle.smt_blast.proofs.shifts.push_copies.Given as goal

abbrev pub invariant-loop-place : goal.invariant-loop-place
invariant-loop-place l = l.bits.items ≡ l.initial.bits.items ++ replicate l.place l.bit
