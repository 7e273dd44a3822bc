use Rattle.std.proofs.Common.{◌≡◌, map, take}
use Rattle.smt_values.specs.View.{entry_named}
use Rattle.smt_values.proofs.entry_map.EntryMap.share.Given as goal

-- what is made says what those so far say
abbrev pub invariant-loop-name : goal.invariant-loop-name
invariant-loop-name l = map entry_named l.items.items ≡ map entry_named (take l.name-index l.name-items)
