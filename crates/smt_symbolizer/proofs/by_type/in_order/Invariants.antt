use Rattle.std.proofs.Common.{◌≡◌, map}
use Rattle.law_terms.specs.ValueOrder.{text_cmp}
use Rattle.smt_term.specs.SortedPairs.{sorted_pairs}
use Rattle.smt_symbolizer.specs.Named.{named}
use Rattle.smt_symbolizer.proofs.by_type.in_order.Given as goal

-- what is found is the pairs so far in order
abbrev pub invariant-loop-ety : goal.invariant-loop-ety
invariant-loop-ety g l = map named l.found.entries ≡ sorted_pairs text_cmp (map named l.yielded)
