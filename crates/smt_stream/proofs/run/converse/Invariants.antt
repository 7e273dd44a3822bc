use Rattle.std.proofs.Common.{◌≡◌, ◌<◌, ◌-◌, ◌+◌, length}
use Rattle.law_verdicts.specs.Streams.{most_bytes}
use Rattle.smt_stream.proofs.Leading.{Leading}
use Rattle.smt_stream.proofs.run.converse.Given as goal

abbrev pub invariant-loop-stream : goal.invariant-loop-stream
invariant-loop-stream g l = record {
  some : 0 < length l.piece;
  so_far : Leading (g.R.Source.remaining l.fn.source) (g.R.Source.remaining l.source) (g.W.Sink.contents l.fn.out) (g.W.Sink.contents l.out) l.stream;
  no_source_fault : g.R.Source.faults l.source ≡ g.R.Source.faults l.fn.source;
  no_sink_fault : g.W.Sink.faults l.out ≡ g.W.Sink.faults l.fn.out;
}

abbrev pub decreases-loop-stream : goal.decreases-loop-stream
decreases-loop-stream g l = (most_bytes + 1) - l.stream.total
