use Rattle.std.proofs.Common.{map, sym, ap, ◌∙◌, subst, arith}
use Rattle.std.proofs.lemmas.List.{take_all}
use Rattle.law_assignments.specs.Evaluated.{evaluated}
use Rattle.law_terms.specs.Plain.{Application, RecordTerm, SetTerm, SomeTerm, record_fields, terms}
use Rattle.law_terms.specs.TermSets.{set_term}
use Rattle.smt_term.specs.View.{plain_field, plain_op, plain_term, plain_term-App, plain_term-Set, plain_term-Some, plain_type}
use Rattle.smt_eval.specs.AssignmentView.{plain_assignment}
use Rattle.smt_eval.specs.Evaluable.{HasValueIn}
use Rattle.smt_eval.proofs.Valued.{evaluated_pair, of_application, of_set, of_some, one_more_field, one_more_value, record_evaluated}
use Rattle.smt_eval.proofs.evaluation.+values.Goals as goal

pub literal_of-returns-in_ok-values-in-App-clause-evaluated :
    goal.literal_of-returns-in_ok-values-in-App-clause-evaluated
literal_of-returns-in_ok-values-in-App-clause-evaluated t c h =
    let a = plain_assignment c.args.given.now in
    let o = plain_op c.in-App.op in
    let ty = plain_type c.in-App.ret_ty in
    of_application a o c.items.result.now ty (plain_term c.args.t.now) (map plain_term c.as_slice.result.now) c.applied.result h
    (ap plain_term c.in-App.is ∙ plain_term-App c.in-App.op c.in-App.args c.in-App.ret_ty ∙ ap (λ l. Application o (terms l) ty) (sym c.items.ensures.plain))
    (λ g. ap (map plain_term) c.as_slice.ensures.value ∙ c.in_ok-values-in-App.ensures.evaluated g) c.applied.ensures.applied

pub literal_of-returns-in_ok-set_of-in-Set-clause-evaluated :
    goal.literal_of-returns-in_ok-set_of-in-Set-clause-evaluated
literal_of-returns-in_ok-set_of-in-Set-clause-evaluated t c h =
    let a = plain_assignment c.args.given.now in
    let ty = plain_type c.in-Set.elts_ty in
    c.in_ok-set_of-in-Set.ensures.folded ∙ ap (λ u. set_term u (map plain_term c.as_slice-in-Set.result.now)) c.in_ok-share-in-Set.ensures
    ∙ of_set a ty (map plain_term c.items-in-Set.result.now) (plain_term c.args.t.now) (map plain_term c.as_slice-in-Set.result.now) h
    (ap plain_term c.in-Set.is ∙ plain_term-Set c.in-Set.elts_ty c.in-Set.elts ∙ ap (λ l. SetTerm ty (terms l)) (sym c.items-in-Set.ensures.plain))
    (λ g. ap (map plain_term) c.as_slice-in-Set.ensures.value ∙ c.in_ok-values-in-Set.ensures.evaluated g)

pub literal_of-returns-in_ok-new-in-Some-clause-evaluated :
    goal.literal_of-returns-in_ok-new-in-Some-clause-evaluated
literal_of-returns-in_ok-new-in-Some-clause-evaluated t c h =
    let a = plain_assignment c.args.given.now in
    plain_term-Some c.in_ok-new-in-Some.field-0 ∙ ap (λ x. SomeTerm (plain_term x)) c.in_ok-new-in-Some.ensures.ok
    ∙ of_some a (plain_term c.deref.result.now) (plain_term c.args.t.now) (plain_term c.in_ok-literal_of-in-Some.field-0) h
    (ap plain_term c.in-Some.is ∙ plain_term-Some c.in-Some.inside ∙ ap (λ x. SomeTerm (plain_term x)) (sym c.deref.ensures)) c.in_ok-literal_of-in-Some.ensures.evaluated

pub eval_all-loop-term-preserved : goal.eval_all-loop-term-preserved
eval_all-loop-term-preserved t c h =
    one_more_value (plain_assignment c.args.given.now) c.args.terms.now c.loop-term.term-index c.term-item.result _ _ c.in_ok-literal_of.field-0 h c.loop-term-test.true c.term-item.is (c.loop-term.invariant h) c.in_ok-literal_of.ensures.evaluated c.in_ok-push.ensures.items

pub eval_all-returns-clause-evaluated : goal.eval_all-returns-clause-evaluated
eval_all-returns-clause-evaluated t c h =
    c.loop-term.invariant h ∙ ap (λ l. map (evaluated (plain_assignment c.args.given.now)) (map plain_term l)) (take_all c.loop-term.term-index c.args.terms.now (omega (arith, c.loop-term-test.false)))

pub eval_fields-loop-name-preserved : goal.eval_fields-loop-name-preserved
eval_fields-loop-name-preserved t c h =
    one_more_field (plain_assignment c.args.given.now) c.items-name-items.result.now c.loop-name.name-index c.loop-name-item.result _ _ (c.in_ok-clone.field-0, c.in_ok-literal_of.field-0)
    (subst (λ ps. HasValueIn (plain_assignment c.args.given.now) (RecordTerm (record_fields ps))) (sym c.items-name-items.ensures.plain) h) c.loop-name-test.true c.loop-name-item.is (c.loop-name.invariant h) c.in_ok-clone.ensures.cases c.in_ok-literal_of.ensures.evaluated c.in_ok-push.ensures.items

pub eval_fields-returns-clause-evaluated : goal.eval_fields-returns-clause-evaluated
eval_fields-returns-clause-evaluated t c h =
    c.in_ok-record_of.ensures.folded
    ∙ record_evaluated (plain_assignment c.args.given.now) c.args.fields.now (map plain_field c.as_slice.result.now)
    (ap (map plain_field) c.as_slice.ensures.value ∙ c.loop-name.invariant h
    ∙ ap (λ l. map (evaluated_pair (plain_assignment c.args.given.now)) (map plain_field l)) (take_all c.loop-name.name-index c.items-name-items.result.now (omega (arith, c.loop-name-test.false)))
    ∙ ap (map (evaluated_pair (plain_assignment c.args.given.now))) c.items-name-items.ensures.plain)
