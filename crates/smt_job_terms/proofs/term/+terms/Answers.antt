use Rattle.std.proofs.Common.{rules, Bor, List, map, option_map, refl, sym, subst, ap, ◌∙◌, arith}
use Rattle.std.specs.Rc.{rc_str_bytes}
use Rattle.std.specs.declared.alloc.Global.{Global}
use Rattle.std.specs.declared.rc.RcStr.{RcStr}
use Rattle.law_folding.specs.Built.{built}
use Rattle.smt_term.specs.View.{plain_term}
use Rattle.law_texts.specs.Reading.{Node}
use Rattle.smt_sexpr.specs.View.{plain, plain_list}
use Rattle.law_jobs.specs.Outcomes.{mapped}
use Rattle.law_jobs.specs.Terms.{terms_of}
use Rattle.smt_term.specs.declared.term.Term.{Term}
use Rattle.smt_job_terms.specs.TermView.{AreBuilt, parts_of, plain_form}
use Rattle.smt_job_terms.proofs.Reading.{passes_on, read_of}
use Rattle.smt_sexpr.proofs.Shapes.{bracketed, first_and_rest, is_atom, nothing_listed, others, second_listed}
use Rattle.smt_job_terms.proofs.TermsRead.{all_seconds, all_terms, few_seconds, many_seconds, no_pair, one_second, one_term_more, second_fault, term_fault}
use Rattle.smt_job_terms.proofs.WholeTerms.{declared_formed, form_faulty, no_head, parts_built, parts_faulty, second_read, stays, to_the_end, whole_made}
use Rattle.smt_job_terms.proofs.term.+terms.Goals as goal
use Rattle.smt_job_terms.proofs.term.+terms.Goals.{seconds_from-in_default-via-then-parts-lt2, seconds_from-in_default-via-else-parts-lt2+else-parts-lt3}

pub parts_from-returns-in-Operator : goal.parts_from-returns-in-Operator
parts_from-returns-in-Operator t c ds has =
    read_of _ c.terms_from.result _ _ (ap (λ f. mapped (map built) (parts_of ds (plain_form f) (plain_list c.args.items.now))) c.in-Operator.is) (c.terms_from.ensures.enough ds has (omega arith))

pub parts_from-returns-in-Present : goal.parts_from-returns-in-Present
parts_from-returns-in-Present t c ds has =
    read_of _ c.terms_from-in-Present.result _ _ (ap (λ f. mapped (map built) (parts_of ds (plain_form f) (plain_list c.args.items.now))) c.in-Present.is) (c.terms_from-in-Present.ensures.enough ds has (omega arith))

pub parts_from-returns-in-OperatorBehind : goal.parts_from-returns-in-OperatorBehind
parts_from-returns-in-OperatorBehind t c ds has =
    read_of _ c.terms_from-in-OperatorBehind.result _ _ (ap (λ f. mapped (map built) (parts_of ds (plain_form f) (plain_list c.args.items.now))) c.in-OperatorBehind.is) (second_read ds c.args.items.now c.terms_from-in-OperatorBehind.result (c.terms_from-in-OperatorBehind.ensures.enough ds has) c.terms_from-in-OperatorBehind.ensures.few)

pub parts_from-returns-in-Elements : goal.parts_from-returns-in-Elements
parts_from-returns-in-Elements t c ds has =
    read_of _ c.terms_from-in-Elements.result _ _ (ap (λ f. mapped (map built) (parts_of ds (plain_form f) (plain_list c.args.items.now))) c.in-Elements.is) (second_read ds c.args.items.now c.terms_from-in-Elements.result (c.terms_from-in-Elements.ensures.enough ds has) c.terms_from-in-Elements.ensures.few)

pub parts_from-returns-in-Fields : goal.parts_from-returns-in-Fields
parts_from-returns-in-Fields t c ds has = read_of _ c.seconds_from.result _ _ (ap (λ f. mapped (map built) (parts_of ds (plain_form f) (plain_list c.args.items.now))) c.in-Fields.is) (c.seconds_from.ensures ds has)

pub seconds_from-returns-in-BitVec : goal.seconds_from-returns-in-BitVec
seconds_from-returns-in-BitVec t c ds has =
    no_pair ds _ c.args.items.now c.loop-item.item-index c.item-item.result (c.loop-item.invariant ds has) c.loop-item-test.true c.item-item.is _ (is_atom c.item-item.result c.in-BitVec.is).1 (λ es. refl)

pub seconds_from-returns-in_default : goal.seconds_from-returns-in_default
seconds_from-returns-in_default t c ds has =
    let shape = bracketed _ c.in-App.inside _ c.in-App.is c.items-parts.ensures in
    no_pair ds _ c.args.items.now c.loop-item.item-index c.item-item.result (c.loop-item.invariant ds has) c.loop-item-test.true c.item-item.is _ shape (elim c.in_default.branch [
      | seconds_from-in_default-via-then-parts-lt2 w ↦ few_seconds ds _ (search rules)
      | seconds_from-in_default-via-else-parts-lt2+else-parts-lt3 w ↦ many_seconds ds _ (search rules)
    ])

pub seconds_from-returns-in_err-term_from : goal.seconds_from-returns-in_err-term_from
seconds_from-returns-in_err-term_from t c ds has =
    let two = second_listed _ c.second-item.result c.in-len2.len_at_least c.in-len2.len_below c.second-item.is in
    let shape = bracketed _ c.in-App.inside _ c.in-App.is c.items-parts.ensures ∙ ap Node two.1 in
    passes_on _ c.from_residual.result c.in_err-term_from.field-0.0 _ _ c.from_residual.ensures.1 (c.in_err-term_from.ensures ds has)
    (second_fault ds _ c.args.items.now c.loop-item.item-index c.item-item.result (c.loop-item.invariant ds has) c.loop-item-test.true c.item-item.is two.0 (plain c.second-item.result) shape)

pub seconds_from-loop-item-preserved : goal.seconds_from-loop-item-preserved
seconds_from-loop-item-preserved t c ds has =
    let two = second_listed _ c.second-item.result c.in-len2.len_at_least c.in-len2.len_below c.second-item.is in
    let shape = bracketed _ c.in-App.inside _ c.in-App.is c.items-parts.ensures ∙ ap Node two.1 in
    one_second ds _ c.args.items.now c.loop-item.item-index c.item-item.result (c.loop-item.invariant ds has) c.loop-item-test.true c.item-item.is two.0 (plain c.second-item.result) shape c.in_ok-term_from.field-0 _ (c.in_ok-term_from.ensures ds has) c.in_ok-push.ensures.items

pub seconds_from-returns : goal.seconds_from-returns
seconds_from-returns t c ds has = all_seconds ds _ c.args.items.now c.loop-item.item-index (omega (arith, c.loop-item-test.false)) (c.loop-item.invariant ds has)

pub term_from-returns-in_default : goal.term_from-returns-in_default
term_from-returns-in_default t c ds has = no_head ds _ (bracketed _ c.in-App.inside _ c.in-App.is c.items-items.ensures ∙ ap Node (nothing_listed c.items-items.result.now c.in_default.len_below))

pub term_from-returns-in_err-form : goal.term_from-returns-in_err-form
term_from-returns-in_err-form t c ds has =
    let shape = bracketed _ c.in-App.inside _ c.in-App.is c.items-items.ensures ∙ ap Node (first_and_rest c.items-items.result.now c.first-item.result c.in-len1-up.len_at_least c.first-item.is) in
    let named = ap (option_map (λ (name : Bor (RcStr Global)). rc_str_bytes name.now)) (sym c.in_ok-head.ensures.ok_part) ∙ c.name_in.ensures in
    passes_on plain_term c.from_residual-in_err-form.result c.in_err-form.field-0.0 _ _ c.from_residual-in_err-form.ensures.1 (c.in_err-form.ensures ds has)
    (form_faulty ds _ _ _ _ shape (sym named))

pub term_from-returns-in_err-parts : goal.term_from-returns-in_err-parts
term_from-returns-in_err-parts t c ds has =
    let shape = bracketed _ c.in-App.inside _ c.in-App.is c.items-items.ensures ∙ ap Node (first_and_rest c.items-items.result.now c.first-item.result c.in-len1-up.len_at_least c.first-item.is) in
    let named = ap (option_map (λ (name : Bor (RcStr Global)). rc_str_bytes name.now)) (sym c.in_ok-head.ensures.ok_part) ∙ c.name_in.ensures in
    passes_on plain_term c.from_residual-in_err-parts.result c.in_err-parts.field-0.0 _ _ c.from_residual-in_err-parts.ensures.1 (c.in_err-parts.ensures ds has)
    (parts_faulty ds _ _ _ _ shape (sym named) (plain_form c.in_ok-form.form) (c.in_ok-form.ensures ds has))

pub term_from-returns : goal.term_from-returns
term_from-returns t c ds has =
    let shape = bracketed _ c.in-App.inside _ c.in-App.is c.items-items.ensures ∙ ap Node (first_and_rest c.items-items.result.now c.first-item.result c.in-len1-up.len_at_least c.first-item.is) in
    let named = ap (option_map (λ (name : Bor (RcStr Global)). rc_str_bytes name.now)) (sym c.in_ok-head.ensures.ok_part) ∙ c.name_in.ensures in
    let formed = declared_formed c.args.declared.now ds has in
    let stated = c.in_ok-form.ensures ds has in
    let parts = parts_built ds formed (plain_form c.in_ok-form.form) (plain_list (others c.items-items.result.now)) c.in_ok-parts.parts.items (c.in_ok-parts.ensures ds has) in
    read_of plain_term c.made_from.result _ _ (whole_made ds _ _ _ _ shape (sym named) (plain_form c.in_ok-form.form) stated parts.written parts.stated)
    (c.made_from.ensures parts.written (stays ds formed (rc_str_bytes c.in_ok-head.head.now) (plain_list (others c.items-items.result.now)) (plain_form c.in_ok-form.form) stated)
    (subst (λ (ts : List Term). AreBuilt parts.written ts) (sym c.as_slice.ensures.value) parts.are_built))

pub terms_from-returns-in_err-term_from-clause-enough : goal.terms_from-returns-in_err-term_from-clause-enough
terms_from-returns-in_err-term_from-clause-enough t c ds has enough =
    read_of _ c.from_residual.result _ _ (ap (λ xs. mapped (map built) (terms_of ds (plain_list xs))) (sym (to_the_end c.args.items.now c.args.first)))
    (passes_on _ c.from_residual.result c.in_err-term_from.field-0.0 _ _ c.from_residual.ensures.1 (c.in_err-term_from.ensures ds has)
    (term_fault ds _ _ c.loop-item.item-index c.item-item.result (c.loop-item.invariant ds has) c.loop-item-test.true c.item-item.is))

pub terms_from-loop-item-preserved : goal.terms_from-loop-item-preserved
terms_from-loop-item-preserved t c ds has =
    one_term_more ds _ _ c.loop-item.item-index c.item-item.result (c.loop-item.invariant ds has) c.loop-item-test.true c.item-item.is c.in_ok-term_from.field-0 _ (c.in_ok-term_from.ensures ds has) c.in_ok-push.ensures.items

pub terms_from-returns-clause-enough : goal.terms_from-returns-clause-enough
terms_from-returns-clause-enough t c ds has enough =
    ap (λ xs. mapped (map built) (terms_of ds (plain_list xs))) (sym (to_the_end c.args.items.now c.args.first))
    ∙ all_terms ds _ _ c.loop-item.item-index (omega (arith, c.loop-item-test.false)) (c.loop-item.invariant ds has)
