use Rattle.std.proofs.Common.{◌≡◌, map, take}
use Rattle.smt_values.specs.View.{plain_stored}
use Rattle.smt_values.proofs.store.Entities.share.Given as goal

-- what is made says what those so far say
abbrev pub invariant-loop-item : goal.invariant-loop-item
invariant-loop-item l = map plain_stored l.items.items ≡ map plain_stored (take l.item-index l.item-items)
