use Rattle.std.proofs.Common.{◌≡◌, length, map, reverse}
use Rattle.law_scripts.specs.Script.{look_up}
use Rattle.smt_mini.specs.Tables.{plain_name}
use Rattle.smt_mini.proofs.names.find.Given as goal

abbrev pub invariant-loop-last : goal.invariant-loop-last
invariant-loop-last l = look_up l.text (reverse (map plain_name l.rest)) ≡ look_up l.text (reverse (map plain_name l.names))

abbrev pub decreases-loop-last : goal.decreases-loop-last
decreases-loop-last l = length l.rest
