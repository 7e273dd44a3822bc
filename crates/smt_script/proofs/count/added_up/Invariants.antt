use Rattle.std.proofs.Common.{◌≡◌, ◌+◌, ◌^◌, ◌%◌, sum, take}
use Rattle.smt_script.proofs.count.added_up.Given as goal

abbrev pub invariant-loop-byte : goal.invariant-loop-byte
invariant-loop-byte l = l.sum ≡ (l.total + sum (take l.byte-index l.bytes)) % 2 ^ 64
