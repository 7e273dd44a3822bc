use Rattle.std.proofs.Common.{◌≡◌, map, take}
use Rattle.law_terms.specs.TermOrder.{term_cmp}
use Rattle.smt_term.specs.Tables.{plain_entry}
use Rattle.smt_term.specs.SortedPairs.{sorted_pairs}
use Rattle.smt_term.proofs.table.TermTable.in_order.Given as goal

-- what is found is the pairs so far in order
abbrev pub invariant-loop-argument : goal.invariant-loop-argument
invariant-loop-argument l = map plain_entry l.found.entries ≡ sorted_pairs term_cmp (map plain_entry (take l.argument-index l.items))
