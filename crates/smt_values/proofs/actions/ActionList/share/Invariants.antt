use Rattle.std.proofs.Common.{◌≡◌, map, take}
use Rattle.smt_values.specs.View.{plain_action}
use Rattle.smt_values.proofs.actions.ActionList.share.Given as goal

-- what is made says what those so far say
abbrev pub invariant-loop-item : goal.invariant-loop-item
invariant-loop-item l = map plain_action l.items.items ≡ map plain_action (take l.item-index l.item-items)
