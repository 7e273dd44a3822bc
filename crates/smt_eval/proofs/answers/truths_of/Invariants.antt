use Rattle.std.proofs.Common.{◌≡◌, map, take}
use Rattle.smt_eval.specs.AssignmentView.{plain_assignment}
use Rattle.smt_term.specs.View.{plain_term}
use Rattle.smt_eval.specs.Answers.{truths_in}
use Rattle.smt_eval.proofs.answers.truths_of.Given as goal

abbrev pub invariant-loop-term : goal.invariant-loop-term
invariant-loop-term l = l.truths.items ≡ truths_in (plain_assignment l.input.given) (map plain_term (take l.term-index l.term-items))
