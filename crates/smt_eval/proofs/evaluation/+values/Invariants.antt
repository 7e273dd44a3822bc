use Rattle.std.proofs.Common.{◌≡◌, map, take}
use Rattle.law_assignments.specs.Evaluated.{evaluated}
use Rattle.law_terms.specs.Plain.{RecordTerm, record_fields}
use Rattle.smt_term.specs.View.{plain_field, plain_fields, plain_term}
use Rattle.smt_eval.specs.AssignmentView.{plain_assignment}
use Rattle.smt_eval.specs.Evaluable.{AllHaveValuesIn, HasValueIn}
use Rattle.smt_eval.proofs.Valued.{evaluated_pair}
use Rattle.smt_eval.proofs.evaluation.+values.Given as goal

abbrev pub invariant-eval_all-loop-term : goal.invariant-eval_all-loop-term
invariant-eval_all-loop-term l = AllHaveValuesIn (plain_assignment l.given) (map plain_term l.terms) → map plain_term l.values.items ≡ map (evaluated (plain_assignment l.given)) (map plain_term (take l.term-index l.terms))

abbrev pub invariant-eval_fields-loop-name : goal.invariant-eval_fields-loop-name
invariant-eval_fields-loop-name l = HasValueIn (plain_assignment l.given) (RecordTerm (record_fields (plain_fields l.fields))) → map plain_field l.values.items ≡ map (evaluated_pair (plain_assignment l.given)) (map plain_field (take l.name-index l.name-items))
