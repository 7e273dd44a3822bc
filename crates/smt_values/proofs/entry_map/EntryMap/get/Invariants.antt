use Rattle.std.proofs.Common.{◌≡◌, drop, map}
use Rattle.std.specs.Map.{lookup}
use Rattle.std.specs.Prelude.{bytes_eq}
use Rattle.smt_term.specs.Entities.{bytes_of_type}
use Rattle.smt_values.specs.View.{entry_named}
use Rattle.smt_values.proofs.entry_map.EntryMap.get.Given as goal

-- what is found in the entries that are left is found in all of them
abbrev pub invariant-loop-name : goal.invariant-loop-name
invariant-loop-name l = lookup (bytes_eq (bytes_of_type l.ety)) (map entry_named (drop l.name-index l.name-items)) ≡ lookup (bytes_eq (bytes_of_type l.ety)) (map entry_named l.name-items)
