use Rattle.std.proofs.Common.{[], ◌∷◌, option_map, sym, ap, subst}
use Rattle.std.specs.Prelude.{IfOk}
use Rattle.law_terms.specs.Plain.{PlainOp}
use Rattle.smt_term.specs.View.{plain_op, plain_term}
use Rattle.smt_eval.specs.AssignmentView.{plain_assignment}
use Rattle.smt_eval.specs.Evaluable.{Answers}
use Rattle.smt_eval.proofs.evaluation.answered_at_one.Goals as goal

pub returns-in-OptionGet-clause-answer : goal.returns-in-OptionGet-clause-answer
returns-in-OptionGet-clause-answer c =
    subst (λ (o : PlainOp). IfOk c.at_none.result (λ found. Answers (plain_assignment c.args.given.now) o (plain_term c.args.value.now ∷ []) (option_map plain_term found))) (sym (ap plain_op c.in-OptionGet.is)) c.at_none.ensures.answer

pub returns-in-Ext-clause-answer : goal.returns-in-Ext-clause-answer
returns-in-Ext-clause-answer c =
    subst (λ (o : PlainOp). IfOk c.at_range.result (λ found. Answers (plain_assignment c.args.given.now) o (plain_term c.args.value.now ∷ []) (option_map plain_term found))) (sym (ap plain_op c.in-Ext.is)) c.at_range.ensures.answer
