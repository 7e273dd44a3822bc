use Rattle.std.proofs.Common.{◌≡◌, drop}
use Rattle.std.specs.List.{list_all}
use Rattle.law_assignments.specs.Entries.{is_faultless_leaf}
use Rattle.smt_term.specs.Enums.{enums_of}
use Rattle.smt_eval.proofs.Parts.{within, within_fields}
use Rattle.smt_eval.proofs.values.+leaves.Given as goal

-- the terms that are left decide
abbrev pub invariant-are_faultless-loop-term : goal.invariant-are_faultless-loop-term
invariant-are_faultless-loop-term l = list_all (is_faultless_leaf (enums_of l.enums)) (within (drop l.term-index l.terms)) ≡ list_all (is_faultless_leaf (enums_of l.enums)) (within l.terms)

abbrev pub invariant-are_faultless_fields-loop-term : goal.invariant-are_faultless_fields-loop-term
invariant-are_faultless_fields-loop-term l = list_all (is_faultless_leaf (enums_of l.enums)) (within_fields (drop l.term-index l.term-items)) ≡ list_all (is_faultless_leaf (enums_of l.enums)) (within_fields l.term-items)
