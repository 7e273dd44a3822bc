use Rattle.std.proofs.Common.{◌≡◌, map, take}
use Rattle.std.specs.Rc.{rc_str_bytes}
use Rattle.smt_term.specs.Pairs.{attributes_in}
use Rattle.smt_nodes.proofs.attributes.AttrList.of_pairs.Given as goal

-- the attributes so far are those of the pairs so far
abbrev pub invariant-loop-name : goal.invariant-loop-name
invariant-loop-name g l = map rc_str_bytes l.all.items ≡ attributes_in (take l.name-index l.pairs)
