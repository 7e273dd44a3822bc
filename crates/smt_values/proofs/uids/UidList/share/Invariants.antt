use Rattle.std.proofs.Common.{◌≡◌, map, take}
use Rattle.smt_term.specs.Entities.{texts_of_entity}
use Rattle.smt_values.proofs.uids.UidList.share.Given as goal

-- what is made says what those so far say
abbrev pub invariant-loop-item : goal.invariant-loop-item
invariant-loop-item l = map texts_of_entity l.items.items ≡ map texts_of_entity (take l.item-index l.item-items)
