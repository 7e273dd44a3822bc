use Rattle.std.proofs.Common.{◌≡◌, ◌+◌, false, ◌&&◌, drop, map, refl, sym, ap, ◌∙◌, rules, arith}
use Rattle.std.specs.List.{list_all}
use Rattle.std.proofs.lemmas.List.{at_drop_all}
use Rattle.law_assignments.specs.Entries.{is_faultless_leaf}
use Rattle.law_terms.specs.Plain.{Application, RecordTerm, SetTerm, SomeTerm, record_fields, terms}
use Rattle.law_terms.specs.Reached.{subterms, subterms_of_fields}
use Rattle.smt_term.specs.View.{plain_fields, plain_op, plain_term, plain_term-App, plain_term-Record, plain_term-Set, plain_term-Some, plain_type}
use Rattle.smt_term.specs.Enums.{enums_of}
use Rattle.smt_eval.proofs.Parts.{all_last, all_next_field, within, within_fields}
use Rattle.smt_eval.proofs.values.+leaves.Goals as goal

pub are_faultless_fields-returns-then-not-is_faultless :
    goal.are_faultless_fields-returns-then-not-is_faultless
are_faultless_fields-returns-then-not-is_faultless t c =
    let test = is_faultless_leaf (enums_of c.args.enums.now) in
    let items = c.items-term-items.result.now in
    let x = c.loop-term-item.result in
    let refused : c.is_faultless.result ≡ false = search rules in
    sym (ap (λ ps. list_all test (subterms_of_fields (record_fields ps))) (sym c.items-term-items.ensures.plain)
    ∙ sym c.loop-term.invariant
    ∙ all_next_field test items c.loop-term.term-index x c.loop-term-test.true c.loop-term-item.is
    ∙ ap (λ b. b && list_all test (within_fields (drop (c.loop-term.term-index + 1) items))) (sym c.is_faultless.ensures ∙ refused))

pub are_faultless_fields-returns : goal.are_faultless_fields-returns
are_faultless_fields-returns t c =
    let test = is_faultless_leaf (enums_of c.args.enums.now) in
    let items = c.items-term-items.result.now in
    sym (ap (λ ps. list_all test (subterms_of_fields (record_fields ps))) (sym c.items-term-items.ensures.plain)
    ∙ sym c.loop-term.invariant
    ∙ at_drop_all (λ xs. list_all test (within_fields xs)) items c.loop-term.term-index (omega (arith, c.loop-term-test.false)))

pub is_faultless-returns-in-App : goal.is_faultless-returns-in-App
is_faultless-returns-in-App t c =
    let test = is_faultless_leaf (enums_of c.args.enums.now) in
    let o = plain_op c.in-App.op in
    let ty = plain_type c.in-App.ret_ty in
    let shape = ap plain_term c.in-App.is ∙ plain_term-App c.in-App.op c.in-App.args c.in-App.ret_ty ∙ ap (λ l. Application o (terms l) ty) (sym c.items.ensures.plain) in
    c.are_faultless.ensures ∙ all_last test (within c.items.result.now) (Application o (terms (map plain_term c.items.result.now)) ty) refl ∙ ap (λ w. list_all test (subterms w)) (sym shape)

pub is_faultless-returns-in-Record : goal.is_faultless-returns-in-Record
is_faultless-returns-in-Record t c =
    let test = is_faultless_leaf (enums_of c.args.enums.now) in
    let shape = ap plain_term c.in-Record.is ∙ plain_term-Record c.in-Record.fields in
    c.are_faultless_fields.ensures ∙ all_last test (subterms_of_fields (record_fields (plain_fields c.in-Record.fields))) (RecordTerm (record_fields (plain_fields c.in-Record.fields))) refl ∙ ap (λ w. list_all test (subterms w)) (sym shape)

pub is_faultless-returns-in-Set : goal.is_faultless-returns-in-Set
is_faultless-returns-in-Set t c =
    let test = is_faultless_leaf (enums_of c.args.enums.now) in
    let ty = plain_type c.in-Set.elts_ty in
    let shape = ap plain_term c.in-Set.is ∙ plain_term-Set c.in-Set.elts_ty c.in-Set.elts ∙ ap (λ l. SetTerm ty (terms l)) (sym c.items-in-Set.ensures.plain) in
    c.are_faultless-in-Set.ensures ∙ all_last test (within c.items-in-Set.result.now) (SetTerm ty (terms (map plain_term c.items-in-Set.result.now))) refl ∙ ap (λ w. list_all test (subterms w)) (sym shape)

pub is_faultless-returns-in-Some : goal.is_faultless-returns-in-Some
is_faultless-returns-in-Some t c =
    let test = is_faultless_leaf (enums_of c.args.enums.now) in
    let shape = ap plain_term c.in-Some.is ∙ plain_term-Some c.in-Some.inside ∙ ap (λ x. SomeTerm (plain_term x)) (sym c.deref.ensures) in
    c.is_faultless.ensures ∙ all_last test (subterms (plain_term c.deref.result.now)) (SomeTerm (plain_term c.deref.result.now)) refl ∙ ap (λ w. list_all test (subterms w)) (sym shape)
