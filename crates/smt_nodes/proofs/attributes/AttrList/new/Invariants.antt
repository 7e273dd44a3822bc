use Rattle.std.proofs.Common.{◌≡◌, map, take}
use Rattle.std.specs.Rc.{rc_str_bytes}
use Rattle.smt_nodes.proofs.attributes.AttrList.new.Given as goal

abbrev pub invariant-loop-item : goal.invariant-loop-item
invariant-loop-item l = map rc_str_bytes l.all.items ≡ map rc_str_bytes (take l.item-index l.items)
