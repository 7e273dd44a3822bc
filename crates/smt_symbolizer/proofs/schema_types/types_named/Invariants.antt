use Rattle.std.proofs.Common.{◌≡◌, ◌++◌, drop, map}
use Rattle.std.specs.Rc.{rc_str_bytes}
use Rattle.smt_term.specs.Entities.{bytes_of_type}
use Rattle.smt_symbolizer.proofs.schema_types.types_named.Given as goal

-- what is made and what there is of those that are left is what there is of all
abbrev pub invariant-loop-name : goal.invariant-loop-name
invariant-loop-name l = map bytes_of_type l.types.items ++ map rc_str_bytes (drop l.name-index l.names) ≡ map rc_str_bytes l.names
