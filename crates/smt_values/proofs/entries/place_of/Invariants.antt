use Rattle.std.proofs.Common.{◌≡◌, ◌+◌, drop, map}
use Rattle.std.specs.List.{position_or_len}
use Rattle.smt_term.specs.Entities.{bytes_of_type}
use Rattle.smt_values.specs.Entries.{is_not_above}
use Rattle.smt_values.specs.View.{entry_named}
use Rattle.smt_values.proofs.entries.place_of.Given as goal

-- the place among those that are left decides the place among all
abbrev pub invariant-loop-item : goal.invariant-loop-item
invariant-loop-item l = (l.place ≡ l.item-index) × (l.place + position_or_len (is_not_above (bytes_of_type l.ety)) (map entry_named (drop l.item-index l.items)) ≡ position_or_len (is_not_above (bytes_of_type l.ety)) (map entry_named l.items))
