use Rattle.std.proofs.Common.{length}
use Rattle.smt_term.specs.Enums.{enums_of}
use Rattle.smt_runs.proofs.Between.{IsUnderway}
use Rattle.smt_runs.proofs.script.put_steps.Given as goal

abbrev pub invariant-loop-encoder : goal.invariant-loop-encoder
invariant-loop-encoder g l = IsUnderway (enums_of l.enums) l.fn.nodes l.steps l.encoder l.left (g.W.Sink.contents l.initial.out) (g.W.Sink.contents l.out) (g.W.Sink.faults l.initial.out) (g.W.Sink.faults l.out)

abbrev pub decreases-loop-encoder : goal.decreases-loop-encoder
decreases-loop-encoder g l = length l.left
