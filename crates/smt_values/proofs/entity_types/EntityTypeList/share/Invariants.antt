use Rattle.std.proofs.Common.{◌≡◌, map, take}
use Rattle.smt_term.specs.Entities.{bytes_of_type}
use Rattle.smt_values.proofs.entity_types.EntityTypeList.share.Given as goal

-- what is made says what those so far say
abbrev pub invariant-loop-item : goal.invariant-loop-item
invariant-loop-item l = map bytes_of_type l.items.items ≡ map bytes_of_type (take l.item-index l.item-items)
