use Rattle.std.proofs.Common.{◌≡◌, drop, map}
use Rattle.std.specs.List.{list_all}
use Rattle.law_terms.specs.Functions.{is_literal_entry}
use Rattle.smt_term.specs.Tables.{plain_entry}
use Rattle.smt_term.proofs.unary_function.are_literal.Given as goal

-- whether the pairs that are left are of literals decides it of all
abbrev pub invariant-loop-argument : goal.invariant-loop-argument
invariant-loop-argument l = list_all is_literal_entry (map plain_entry (drop l.argument-index l.entries)) ≡ list_all is_literal_entry (map plain_entry l.entries)
