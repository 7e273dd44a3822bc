use Rattle.std.proofs.Common.{List, ◌∙◌, ap, map, sym}
use Rattle.smt_term.specs.View.{plain_field, plain_term, plain_type}
use Rattle.smt_term.specs.declared.term.Term.{Term}
use Rattle.law_terms.specs.TermSets.{set_term}
use Rattle.smt_values.specs.TypeOfCedar.{type_of_cedar}
use Rattle.smt_values.specs.TypeView.{plain_cedar}
use Rattle.smt_values.specs.declared.cedar_type.CedarType.{CedarType}
use Rattle.smt_values.specs.PlainValues.{value_fields}
use Rattle.smt_values.specs.ValueView.{named_fields, values_held}
use Rattle.smt_values.proofs.Faults.{passes_on}
use Rattle.smt_values.proofs.Parts.{each_attribute, each_element, element_refused, pair_in, pair_refused, set_given, term_of_element}
use Rattle.smt_values.proofs.Walks.{all_done, one_refused}
use Rattle.smt_values.proofs.from_cedar.+term_of.Goals as goal

pub attribute_terms-returns-in_err-term : goal.attribute_terms-returns-in_err-term
attribute_terms-returns-in_err-term t c =
    let held = value_fields (named_fields c.args.fields.now) in
    passes_on _ c.from_residual.result c.in_err-term.field-0.0 _ _ c.from_residual.ensures.1 c.in_err-term.ensures
    (λ fault h. each_attribute held c.args.attrs.now c.items-name-items.result.now c.items-name-items.ensures.same
    ∙ one_refused (pair_in held) (map plain_field c.loop-name.pairs.items) c.items-name-items.result.now c.loop-name.name-index c.loop-name-item.result c.loop-name.invariant c.loop-name-test.true c.loop-name-item.is fault (pair_refused held c.loop-name-item.result fault h))

pub attribute_terms-returns : goal.attribute_terms-returns
attribute_terms-returns t c =
    let held = value_fields (named_fields c.args.fields.now) in
    each_attribute held c.args.attrs.now c.items-name-items.result.now c.items-name-items.ensures.same
    ∙ all_done (pair_in held) (map plain_field c.loop-name.pairs.items) c.items-name-items.result.now c.loop-name.name-index c.loop-name-test.false c.loop-name.invariant

pub element_terms-returns-in_err-term_of : goal.element_terms-returns-in_err-term_of
element_terms-returns-in_err-term_of t c =
    passes_on _ c.from_residual.result c.in_err-term_of.field-0.0 _ _ c.from_residual.ensures.1 c.in_err-term_of.ensures
    (λ fault h. each_element c.args.element.now c.args.elements.now
    ∙ one_refused (term_of_element c.args.element.now) (map plain_term c.loop-v.terms.items) c.args.elements.now c.loop-v.v-index c.v-item.result c.loop-v.invariant c.loop-v-test.true c.v-item.is fault h)

pub element_terms-returns : goal.element_terms-returns
element_terms-returns t c =
    each_element c.args.element.now c.args.elements.now
    ∙ all_done (term_of_element c.args.element.now) (map plain_term c.loop-v.terms.items) c.args.elements.now c.loop-v.v-index c.loop-v-test.false c.loop-v.invariant

pub set_term-returns-in_err-terms-in-Some : goal.set_term-returns-in_err-terms-in-Some
set_term-returns-in_err-terms-in-Some t c =
    passes_on _ c.from_residual.result c.in_err-terms-in-Some.field-0.0 _ _ c.from_residual.ensures.1 c.in_err-terms-in-Some.ensures
    (element_refused c.args.element.now c.in-Some.element c.in-Some.is c.deref.result.now c.deref.ensures (values_held c.args.elements.now) c.items.result.now c.items.ensures)

pub set_term-returns-in_ok-set_of-in-Some : goal.set_term-returns-in_ok-set_of-in-Some
set_term-returns-in_ok-set_of-in-Some t c =
    set_given c.args.element.now c.in-Some.element c.in-Some.is c.deref.result.now c.deref.ensures (values_held c.args.elements.now) c.items.result.now c.items.ensures (map plain_term c.in_ok-terms-in-Some.terms.items) c.in_ok-terms-in-Some.ensures
    (plain_type c.in_ok-own-in-Some.own) (plain_term c.in_ok-set_of-in-Some.field-0)
    (ap (λ (type : CedarType). type_of_cedar (plain_cedar type)) (c.deref.ensures ∙ sym c.deref-in-Some.ensures) ∙ c.in_ok-own-in-Some.ensures.typed)
    (c.in_ok-set_of-in-Some.ensures.folded ∙ ap (λ (ts : List Term). set_term (plain_type c.in_ok-own-in-Some.own) (map plain_term ts)) c.as_slice.ensures.value)
