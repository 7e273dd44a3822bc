use Rattle.std.proofs.Common.{ℕ, ◌≡◌, ◌++◌, List, length, drop}
use Rattle.std.specs.Fmt.{HasWritten, IsPlainFormatter}
use Rattle.std.specs.List.{flat_map}
use Rattle.std.specs.Str.{chars}
use Rattle.smt_term.specs.Printed.{character_text}
use Rattle.smt_term.proofs.printed.put_id.Given as goal

-- what is written so far and what is left are the characters of the id
abbrev pub invariant-loop-c : goal.invariant-loop-c
invariant-loop-c g l =
    IsPlainFormatter l.initial.f → (done : List ℕ) × HasWritten g.W.Write.write_str_gives l.initial.f done l.f
    × (done ++ flat_map character_text (drop (length l.yielded) (chars l.id)) ≡ flat_map character_text (chars l.id))
