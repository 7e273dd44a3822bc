use Rattle.std.proofs.Common.{◌≡◌, ◌++◌, length, map}
use Rattle.std.specs.Rc.{rc_str_bytes}
use Rattle.std.specs.String.{string_bytes}
use Rattle.law_verdicts.specs.Machine.{truth_lines}
use Rattle.smt_mini.proofs.model.push_lines.Given as goal

abbrev pub invariant-loop-name : goal.invariant-loop-name
invariant-loop-name l = string_bytes l.text ++ truth_lines (map rc_str_bytes l.rest) l.truths_left ≡ string_bytes l.initial.text ++ truth_lines (map rc_str_bytes l.names) l.truths

abbrev pub decreases-loop-name : goal.decreases-loop-name
decreases-loop-name l = length l.rest
