use Rattle.std.proofs.Common.{◌≡◌, ◌+◌, ◌-◌, ◌^◌, length, min, take}
use Rattle.std.specs.List.{flat_map}
use Rattle.std.specs.Rc.{rc_str_bytes}
use Rattle.smt_spelling.proofs.pieces.spaced_len.Given as goal

-- all spaces are counted, and the pieces so far
abbrev pub invariant-loop-piece : goal.invariant-loop-piece
invariant-loop-piece l = l.len ≡ min (length l.pieces - 1 + length (flat_map rc_str_bytes (take l.piece-index l.pieces))) (2 ^ 64 - 1)
