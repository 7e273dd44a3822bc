use Rattle.std.proofs.Common.{◌≡◌, ◌-◌, ◌^◌, length, min, take}
use Rattle.std.specs.List.{flat_map}
use Rattle.smt_spelling.proofs.pieces.concat_len.Given as goal

-- the pieces so far are counted
abbrev pub invariant-loop-piece : goal.invariant-loop-piece
invariant-loop-piece l = l.len ≡ min (length (flat_map (λ piece. piece.now) (take l.piece-index l.pieces))) (2 ^ 64 - 1)
