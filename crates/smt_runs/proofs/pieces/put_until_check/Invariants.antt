use Rattle.std.proofs.Common.{length}
use Rattle.smt_runs.proofs.Loop.{IsGoing}
use Rattle.smt_runs.proofs.pieces.put_until_check.Given as goal

abbrev pub invariant-loop-step : goal.invariant-loop-step
invariant-loop-step g l = IsGoing g.S.Sink.contents g.S.Sink.faults g.S.Sink.place l.initial.encoder l.encoder l.steps l.left

abbrev pub decreases-loop-step : goal.decreases-loop-step
decreases-loop-step g l = length l.left
