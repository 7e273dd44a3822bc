use Rattle.std.proofs.Common.{ℕ, ◌≡◌, ◌++◌, List, map, drop}
use Rattle.std.specs.Fmt.{HasWritten, IsPlainFormatter}
use Rattle.std.specs.List.{flat_map}
use Rattle.smt_term.specs.PatternView.{plain_part}
use Rattle.smt_term.specs.Printed.{part_text}
use Rattle.smt_term.proofs.printed.put_parts.Given as goal

-- what is written so far and what is left are the elements of the pattern
abbrev pub invariant-loop-part : goal.invariant-loop-part
invariant-loop-part g l =
    IsPlainFormatter l.initial.f → (done : List ℕ) × HasWritten g.W.Write.write_str_gives l.initial.f done l.f
    × (done ++ flat_map part_text (map plain_part (drop l.part-index l.parts)) ≡ flat_map part_text (map plain_part l.parts))
