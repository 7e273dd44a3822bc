use Rattle.std.proofs.Common.{◌≡◌, drop, not}
use Rattle.std.specs.List.{find}
use Rattle.law_assignments.specs.Covered.{gives}
use Rattle.smt_eval.specs.AssignmentView.{plain_assignment}
use Rattle.smt_eval.proofs.Parts.{within, within_fields}
use Rattle.smt_eval.proofs.missing.+missing.Given as goal

-- what is found in the terms that are left is found in all of them
abbrev pub invariant-missing_among-loop-term : goal.invariant-missing_among-loop-term
invariant-missing_among-loop-term l = find (λ w. not (gives (plain_assignment l.given) w)) (within (drop l.term-index l.terms)) ≡ find (λ w. not (gives (plain_assignment l.given) w)) (within l.terms)

abbrev pub invariant-missing_in_fields-loop-term : goal.invariant-missing_in_fields-loop-term
invariant-missing_in_fields-loop-term l = find (λ w. not (gives (plain_assignment l.given) w)) (within_fields (drop l.term-index l.term-items)) ≡ find (λ w. not (gives (plain_assignment l.given) w)) (within_fields l.term-items)
