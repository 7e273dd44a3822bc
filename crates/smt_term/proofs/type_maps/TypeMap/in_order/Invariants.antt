use Rattle.std.proofs.Common.{◌≡◌, map, take}
use Rattle.law_terms.specs.ValueOrder.{text_cmp}
use Rattle.smt_term.specs.TypeView.{plain_attribute}
use Rattle.smt_term.specs.SortedPairs.{sorted_pairs}
use Rattle.smt_term.proofs.type_maps.TypeMap.in_order.Given as goal

-- what is found is the pairs so far in order
abbrev pub invariant-loop-name : goal.invariant-loop-name
invariant-loop-name l = map plain_attribute l.found.entries ≡ sorted_pairs text_cmp (map plain_attribute (take l.name-index l.items))
