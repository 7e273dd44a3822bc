use Rattle.std.proofs.Common.{sym, ◌∙◌, arith}
use Rattle.law_terms.specs.Types.{type_of}
use Rattle.smt_term.specs.View.{plain_term}
use Rattle.smt_term.proofs.RecordFields.{alike_next, alike_none, alike_terms-are, other_name, other_type, unequal}
use Rattle.smt_term.proofs.+typed_as.Goals as goal

pub maps::TermMap::is_typed_as-returns-then-fields-others : goal.maps::TermMap::is_typed_as-returns-then-fields-others
maps::TermMap::is_typed_as-returns-then-fields-others t c =
    sym (unequal (λ u. type_of (plain_term u)) (λ u. type_of (plain_term u)) c.items-fields.result.now c.items-others.result.now c.if-fields-others.true)
    ∙ alike_terms-are c.args.self.now c.args.others.now c.items-fields.result.now c.items-others.result.now c.items-fields.ensures.same c.items-others.ensures.same

pub maps::TermMap::is_typed_as-returns-then-not-is_same_attribute : goal.maps::TermMap::is_typed_as-returns-then-not-is_same_attribute
maps::TermMap::is_typed_as-returns-then-not-is_same_attribute t c =
    sym (other_name (λ u. type_of (plain_term u)) (λ u. type_of (plain_term u)) c.items-fields.result.now c.items-others.result.now c.loop-i.i c.index-fields-i.result c.index-others-i.result c.loop-i-test.true (omega (arith, c.loop-i-test.true, c.if-fields-others.false)) c.index-fields-i.is c.index-others-i.is (sym c.is_same_attribute.ensures ∙ c.if-not-is_same_attribute.true)) ∙ c.loop-i.invariant ∙ alike_terms-are c.args.self.now c.args.others.now c.items-fields.result.now c.items-others.result.now c.items-fields.ensures.same c.items-others.ensures.same

pub maps::TermMap::is_typed_as-returns-then-not-is_typed_as : goal.maps::TermMap::is_typed_as-returns-then-not-is_typed_as
maps::TermMap::is_typed_as-returns-then-not-is_typed_as t c =
    sym (other_type (λ u. type_of (plain_term u)) (λ u. type_of (plain_term u)) c.items-fields.result.now c.items-others.result.now c.loop-i.i c.index-fields-i.result c.index-others-i.result c.loop-i-test.true (omega (arith, c.loop-i-test.true, c.if-fields-others.false)) c.index-fields-i.is c.index-others-i.is (sym c.is_typed_as.ensures ∙ c.if-not-is_typed_as.true)) ∙ c.loop-i.invariant ∙ alike_terms-are c.args.self.now c.args.others.now c.items-fields.result.now c.items-others.result.now c.items-fields.ensures.same c.items-others.ensures.same

pub maps::TermMap::is_typed_as-loop-i-preserved : goal.maps::TermMap::is_typed_as-loop-i-preserved
maps::TermMap::is_typed_as-loop-i-preserved t c =
    alike_next (λ u. type_of (plain_term u)) (λ u. type_of (plain_term u)) c.items-fields.result.now c.items-others.result.now c.loop-i.i c.index-fields-i.result c.index-others-i.result c.loop-i-test.true (omega (arith, c.loop-i-test.true, c.if-fields-others.false)) c.index-fields-i.is c.index-others-i.is (sym c.is_same_attribute.ensures ∙ c.if-not-is_same_attribute.false) (sym c.is_typed_as.ensures ∙ c.if-not-is_typed_as.false) ∙ c.loop-i.invariant

pub maps::TermMap::is_typed_as-returns : goal.maps::TermMap::is_typed_as-returns
maps::TermMap::is_typed_as-returns t c =
    sym (alike_none (λ u. type_of (plain_term u)) (λ u. type_of (plain_term u)) c.items-fields.result.now c.items-others.result.now c.loop-i.i (omega (arith, c.loop-i-test.false)) (omega (arith, c.loop-i-test.false, c.if-fields-others.false))) ∙ c.loop-i.invariant ∙ alike_terms-are c.args.self.now c.args.others.now c.items-fields.result.now c.items-others.result.now c.items-fields.ensures.same c.items-others.ensures.same
