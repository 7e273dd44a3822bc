use Rattle.std.proofs.Common.{◌≡◌, None, replicate}
use Rattle.smt_blast.proofs.visit.Walk.new.Given as goal

abbrev pub invariant-loop-place : goal.invariant-loop-place
invariant-loop-place l = l.marks.items ≡ replicate l.place None
