use Rattle.std.proofs.Common.{◌≡◌, drop, map}
use Rattle.std.specs.Map.{lookup}
use Rattle.law_terms.specs.TermOrder.{term_eq}
use Rattle.smt_term.specs.Tables.{plain_entry}
use Rattle.smt_term.specs.View.{plain_term}
use Rattle.smt_term.proofs.table.TermTable.get.Given as goal

-- what is found in the pairs that are left is found in all of them
abbrev pub invariant-loop-argument : goal.invariant-loop-argument
invariant-loop-argument l = lookup (term_eq (plain_term l.key)) (map plain_entry (drop l.argument-index l.argument-items)) ≡ lookup (term_eq (plain_term l.key)) (map plain_entry l.argument-items)
