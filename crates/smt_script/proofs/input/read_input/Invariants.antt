use Rattle.std.proofs.Common.{◌<◌, ◌≤◌, ◌-◌, length, vec_len}
use Rattle.smt_script.proofs.ReadsLemmas.{SoFar}
use Rattle.smt_script.proofs.input.read_input.Given as goal

abbrev pub invariant-loop-bytes : goal.invariant-loop-bytes
invariant-loop-bytes g l = record {
  some : 0 < length l.piece;
  short : vec_len l.bytes ≤ l.greatest;
  so_far : SoFar g.S.Source.remaining g.S.Source.faults g.S.Source.never_fails g.S.Source.place l.fn.source l.source l.bytes.items;
}

abbrev pub decreases-loop-bytes : goal.decreases-loop-bytes
decreases-loop-bytes g l = l.greatest - vec_len l.bytes
