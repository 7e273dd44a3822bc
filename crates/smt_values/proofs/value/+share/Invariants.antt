use Rattle.std.proofs.Common.{◌≡◌, map, take}
use Rattle.smt_values.specs.ValueView.{named_field, plain_value_of}
use Rattle.smt_values.proofs.value.+share.Given as goal

-- what is made says what those so far say
abbrev pub invariant-ValueList::share-loop-item : goal.invariant-ValueList::share-loop-item
invariant-ValueList::share-loop-item l = map plain_value_of l.items.items ≡ map plain_value_of (take l.item-index l.item-items)

abbrev pub invariant-ValueMap::share-loop-name : goal.invariant-ValueMap::share-loop-name
invariant-ValueMap::share-loop-name l = map named_field l.pairs.items ≡ map named_field (take l.name-index l.name-items)
