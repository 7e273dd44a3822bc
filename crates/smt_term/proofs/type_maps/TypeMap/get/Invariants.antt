use Rattle.std.proofs.Common.{◌≡◌, drop, map}
use Rattle.std.specs.Map.{lookup}
use Rattle.std.specs.Prelude.{bytes_eq}
use Rattle.std.specs.Rc.{rc_str_bytes}
use Rattle.smt_term.specs.TypeView.{plain_attribute}
use Rattle.smt_term.proofs.type_maps.TypeMap.get.Given as goal

-- what is found in the pairs that are left is found in all of them
abbrev pub invariant-loop-name : goal.invariant-loop-name
invariant-loop-name l = lookup (bytes_eq (rc_str_bytes l.key)) (map plain_attribute (drop l.name-index l.name-items)) ≡ lookup (bytes_eq (rc_str_bytes l.key)) (map plain_attribute l.name-items)
