use Rattle.std.proofs.Common.{◌≡◌, drop, map}
use Rattle.smt_term.specs.Entities.{bytes_of_type}
use Rattle.smt_values.specs.Stores.{has_type}
use Rattle.smt_values.proofs.request.lists.Given as goal

-- whether the type is among those that are left decides it of all
abbrev pub invariant-loop-item : goal.invariant-loop-item
invariant-loop-item l = has_type (bytes_of_type l.ety) (map bytes_of_type (drop l.item-index l.item-items)) ≡ has_type (bytes_of_type l.ety) (map bytes_of_type l.item-items)
