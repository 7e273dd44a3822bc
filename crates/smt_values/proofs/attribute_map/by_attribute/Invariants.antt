use Rattle.std.proofs.Common.{◌≡◌, map}
use Rattle.law_terms.specs.ValueOrder.{text_cmp}
use Rattle.smt_term.specs.SortedPairs.{sorted_pairs}
use Rattle.smt_values.specs.Named.{named}
use Rattle.smt_values.proofs.attribute_map.by_attribute.Given as goal

-- what is found is the pairs so far in order
abbrev pub invariant-loop-name : goal.invariant-loop-name
invariant-loop-name g l = map named l.found.entries ≡ sorted_pairs text_cmp (map named l.yielded)
