use Rattle.std.proofs.Common.{map, sym, ap, ◌∙◌, refl, arith}
use Rattle.std.specs.List.{find}
use Rattle.std.proofs.lemmas.List.{at_drop_all}
use Rattle.law_terms.specs.Plain.{Application, RecordTerm, SetTerm, SomeTerm, record_fields, terms}
use Rattle.law_terms.specs.Reached.{subterms, subterms_of_fields}
use Rattle.smt_term.specs.View.{plain_fields, plain_op, plain_term, plain_term-App, plain_term-Record, plain_term-Set, plain_term-Some, plain_type}
use Rattle.smt_eval.specs.AssignmentView.{plain_assignment}
use Rattle.smt_eval.proofs.Parts.{behind_parts, first_behind, first_behind_field, first_here, first_here_field, is_missing, within, within_fields}
use Rattle.smt_eval.proofs.missing.+missing.Goals as goal

pub missing_among-returns-in-Some-clause-missing :
    goal.missing_among-returns-in-Some-clause-missing
missing_among-returns-in-Some-clause-missing t c =
    let h = rw c.in-Some.is at c.in_ok-missing.ensures.missing in
    first_here (is_missing (plain_assignment c.args.given.now)) c.args.terms.now c.loop-term.term-index c.term-item.result (plain_term c.in-Some.missing.now) c.loop-term-test.true c.term-item.is c.loop-term.invariant h

pub missing_among-loop-term-preserved : goal.missing_among-loop-term-preserved
missing_among-loop-term-preserved t c =
    let h = rw c.in_default.is at c.in_ok-missing.ensures.missing in
    first_behind (is_missing (plain_assignment c.args.given.now)) c.args.terms.now c.loop-term.term-index c.term-item.result c.loop-term-test.true c.term-item.is c.loop-term.invariant h

pub missing_in_fields-returns-in-Some-clause-missing :
    goal.missing_in_fields-returns-in-Some-clause-missing
missing_in_fields-returns-in-Some-clause-missing t c =
    let h = rw c.in-Some.is at c.in_ok-missing.ensures.missing in
    first_here_field (is_missing (plain_assignment c.args.given.now)) c.items-term-items.result.now c.loop-term.term-index c.loop-term-item.result (plain_term c.in-Some.missing.now) c.loop-term-test.true c.loop-term-item.is c.loop-term.invariant h
    ∙ ap (λ ps. find (is_missing (plain_assignment c.args.given.now)) (subterms_of_fields (record_fields ps))) c.items-term-items.ensures.plain

pub missing_in_fields-loop-term-preserved : goal.missing_in_fields-loop-term-preserved
missing_in_fields-loop-term-preserved t c =
    let h = rw c.in_default.is at c.in_ok-missing.ensures.missing in
    first_behind_field (is_missing (plain_assignment c.args.given.now)) c.items-term-items.result.now c.loop-term.term-index c.loop-term-item.result c.loop-term-test.true c.loop-term-item.is c.loop-term.invariant h

pub missing_in_fields-returns-clause-missing : goal.missing_in_fields-returns-clause-missing
missing_in_fields-returns-clause-missing t c =
    let test = is_missing (plain_assignment c.args.given.now) in
    let items = c.items-term-items.result.now in
    sym (ap (λ ps. find test (subterms_of_fields (record_fields ps))) (sym c.items-term-items.ensures.plain)
    ∙ sym c.loop-term.invariant
    ∙ at_drop_all (λ xs. find test (within_fields xs)) items c.loop-term.term-index (omega (arith, c.loop-term-test.false)))

pub missing_inside-returns-in-App-clause-missing : goal.missing_inside-returns-in-App-clause-missing
missing_inside-returns-in-App-clause-missing t c =
    let ty = plain_type c.in-App.ret_ty in
    let shape = ap plain_term c.in-App.is ∙ plain_term-App c.in-App.op c.in-App.args c.in-App.ret_ty ∙ ap (λ l. Application (plain_op c.in-App.op) (terms l) ty) (sym c.items.ensures.plain) in
    behind_parts (plain_assignment c.args.given.now) c.missing_among.result (within c.items.result.now) (plain_term c.args.term.now) (Application (plain_op c.in-App.op) (terms (map plain_term c.items.result.now)) ty) shape refl c.missing_among.ensures.missing

pub missing_inside-returns-in-Record-clause-missing : goal.missing_inside-returns-in-Record-clause-missing
missing_inside-returns-in-Record-clause-missing t c =
    behind_parts (plain_assignment c.args.given.now) c.missing_in_fields.result (subterms_of_fields (record_fields (plain_fields c.in-Record.fields))) (plain_term c.args.term.now) (RecordTerm (record_fields (plain_fields c.in-Record.fields))) (ap plain_term c.in-Record.is ∙ plain_term-Record c.in-Record.fields) refl c.missing_in_fields.ensures.missing

pub missing_inside-returns-in-Set-clause-missing : goal.missing_inside-returns-in-Set-clause-missing
missing_inside-returns-in-Set-clause-missing t c =
    let ty = plain_type c.in-Set.elts_ty in
    let shape = ap plain_term c.in-Set.is ∙ plain_term-Set c.in-Set.elts_ty c.in-Set.elts ∙ ap (λ l. SetTerm ty (terms l)) (sym c.items-in-Set.ensures.plain) in
    behind_parts (plain_assignment c.args.given.now) c.missing_among-in-Set.result (within c.items-in-Set.result.now) (plain_term c.args.term.now) (SetTerm ty (terms (map plain_term c.items-in-Set.result.now))) shape refl c.missing_among-in-Set.ensures.missing

pub missing_inside-returns-in-Some-clause-missing : goal.missing_inside-returns-in-Some-clause-missing
missing_inside-returns-in-Some-clause-missing t c =
    let shape = ap plain_term c.in-Some.is ∙ plain_term-Some c.in-Some.inside ∙ ap (λ x. SomeTerm (plain_term x)) (sym c.deref.ensures) in
    behind_parts (plain_assignment c.args.given.now) c.missing_in.result (subterms (plain_term c.deref.result.now)) (plain_term c.args.term.now) (SomeTerm (plain_term c.deref.result.now)) shape refl c.missing_in.ensures.missing
