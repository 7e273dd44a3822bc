use Rattle.std.proofs.Common.{◌≡◌, ◌≤◌, take}
use Rattle.std.specs.Io.KnownBytes.{append_known}
use Rattle.std.specs.List.{flat_map}
use Rattle.smt_eval.specs.Answers.{truth_line}
use Rattle.smt_eval.proofs.answers.put_truths.Given as goal

abbrev pub invariant-loop-truth : goal.invariant-loop-truth
invariant-loop-truth g l =
    (g.W.Sink.contents l.out ≡ append_known (g.W.Sink.contents l.initial.out) (flat_map truth_line (take l.truth-index l.truths))) × (g.W.Sink.faults l.initial.out ≤ g.W.Sink.faults l.out)
