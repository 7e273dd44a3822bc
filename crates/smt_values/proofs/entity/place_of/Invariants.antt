use Rattle.std.proofs.Common.{◌≡◌, ◌+◌, drop, map}
use Rattle.std.specs.List.{position_or_len}
use Rattle.smt_term.specs.Entities.{texts_of_entity}
use Rattle.smt_values.specs.Stores.{is_named}
use Rattle.smt_values.specs.View.{plain_stored}
use Rattle.smt_values.proofs.entity.place_of.Given as goal

-- the place among those that are left decides the place among all
abbrev pub invariant-loop-item : goal.invariant-loop-item
invariant-loop-item l = (l.place ≡ l.item-index) × (l.place + position_or_len (is_named (texts_of_entity l.uid)) (map plain_stored (drop l.item-index l.items)) ≡ position_or_len (is_named (texts_of_entity l.uid)) (map plain_stored l.items))
