use Rattle.std.proofs.Common.{◌≡◌, length}
use Rattle.law_verdicts.specs.Streams.{Standing}
use Rattle.smt_stream.specs.Heard.{IsAt}
use Rattle.smt_stream.proofs.Saying.{GoesOn}
use Rattle.smt_stream.proofs.putting.take_piece.Given as goal

abbrev pub invariant-loop-byte : goal.invariant-loop-byte
invariant-loop-byte g l =
    ((first : Standing) → IsAt l.fn.stream first → (mid : Standing) × IsAt l.stream mid × GoesOn first mid l.piece l.rest (g.W.Sink.contents l.fn.out) (g.W.Sink.contents l.out))
    × (g.W.Sink.faults l.out ≡ g.W.Sink.faults l.fn.out)

abbrev pub decreases-loop-byte : goal.decreases-loop-byte
decreases-loop-byte g l = length l.rest
