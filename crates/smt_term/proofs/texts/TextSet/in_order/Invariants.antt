use Rattle.std.proofs.Common.{◌≡◌, map, take}
use Rattle.std.specs.Rc.{rc_str_bytes}
use Rattle.smt_term.specs.TextSets.{sorted_texts}
use Rattle.smt_term.proofs.texts.TextSet.in_order.Given as goal

-- what is found is the texts so far in order
abbrev pub invariant-loop-item : goal.invariant-loop-item
invariant-loop-item l = map rc_str_bytes l.found.keys ≡ sorted_texts (map rc_str_bytes (take l.item-index l.items))
