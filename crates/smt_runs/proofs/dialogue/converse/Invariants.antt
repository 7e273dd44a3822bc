use Rattle.std.proofs.Common.{length}
use Rattle.smt_script.specs.Memory.{list_bytes}
use Rattle.smt_runs.proofs.Talking.{IsUnderway}
use Rattle.smt_runs.proofs.dialogue.converse.Given as goal

abbrev pub invariant-loop-behind : goal.invariant-loop-behind
invariant-loop-behind g l = IsUnderway g.K.Link.state g.K.Link.allows g.W.Sink.contents g.W.Sink.faults l.fn.encoder l.encoder l.fn.left l.left (list_bytes l.fn.lines) (list_bytes l.lines) l.fn.session l.session l.fn.out l.out

abbrev pub decreases-loop-behind : goal.decreases-loop-behind
decreases-loop-behind g l = length l.left
