use Rattle.std.proofs.Common.{◌≡◌, map, take}
use Rattle.smt_values.specs.ValueView.{known_field}
use Rattle.smt_values.proofs.value.PartialMap.share.Given as goal

-- what is made says what those so far say
abbrev pub invariant-loop-name : goal.invariant-loop-name
invariant-loop-name l = map known_field l.pairs.items ≡ map known_field (take l.name-index l.name-items)
