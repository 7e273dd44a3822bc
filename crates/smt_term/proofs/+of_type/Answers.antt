use Rattle.std.proofs.Common.{sym, ◌∙◌, arith}
use Rattle.law_terms.specs.Plain.{RecordType, attribute_types, record_fields}
use Rattle.law_terms.specs.Types.{field_types, type_of}
use Rattle.smt_term.specs.View.{plain_attributes, plain_fields, plain_term, plain_type}
use Rattle.smt_term.proofs.RecordFields.{alike_next, alike_none, alike_types-are, other_name, other_type, unequal}
use Rattle.smt_term.proofs.SameType.{type_eq-turned}
use Rattle.smt_term.proofs.+of_type.Goals as goal

pub maps::TermMap::is_of_types-returns-then-fields-types-clause-same : goal.maps::TermMap::is_of_types-returns-then-fields-types-clause-same
maps::TermMap::is_of_types-returns-then-fields-types-clause-same t c =
    sym (unequal (λ u. type_of (plain_term u)) plain_type c.items-fields.result.now c.items-types.result.now c.if-fields-types.true)
    ∙ alike_types-are c.args.self.now (plain_attributes c.args.types.now) c.items-fields.result.now c.items-types.result.now c.items-fields.ensures.same c.items-types.ensures.plain

pub maps::TermMap::is_of_types-returns-then-fields-types-clause-turned : goal.maps::TermMap::is_of_types-returns-then-fields-types-clause-turned
maps::TermMap::is_of_types-returns-then-fields-types-clause-turned t c =
    maps::TermMap::is_of_types-returns-then-fields-types-clause-same t c
    ∙ type_eq-turned (RecordType (field_types (record_fields (plain_fields c.args.self.now)))) (RecordType (attribute_types (plain_attributes c.args.types.now)))

pub maps::TermMap::is_of_types-returns-then-not-is_same_attribute-clause-same : goal.maps::TermMap::is_of_types-returns-then-not-is_same_attribute-clause-same
maps::TermMap::is_of_types-returns-then-not-is_same_attribute-clause-same t c =
    sym (other_name (λ u. type_of (plain_term u)) plain_type c.items-fields.result.now c.items-types.result.now c.loop-i.i c.index-fields-i.result c.index-types-i.result c.loop-i-test.true (omega (arith, c.loop-i-test.true, c.if-fields-types.false)) c.index-fields-i.is c.index-types-i.is (sym c.is_same_attribute.ensures ∙ c.if-not-is_same_attribute.true)) ∙ c.loop-i.invariant ∙ alike_types-are c.args.self.now (plain_attributes c.args.types.now) c.items-fields.result.now c.items-types.result.now c.items-fields.ensures.same c.items-types.ensures.plain

pub maps::TermMap::is_of_types-returns-then-not-is_same_attribute-clause-turned : goal.maps::TermMap::is_of_types-returns-then-not-is_same_attribute-clause-turned
maps::TermMap::is_of_types-returns-then-not-is_same_attribute-clause-turned t c =
    maps::TermMap::is_of_types-returns-then-not-is_same_attribute-clause-same t c ∙ type_eq-turned (RecordType (field_types (record_fields (plain_fields c.args.self.now)))) (RecordType (attribute_types (plain_attributes c.args.types.now)))

pub maps::TermMap::is_of_types-returns-then-not-is_of_type-clause-same : goal.maps::TermMap::is_of_types-returns-then-not-is_of_type-clause-same
maps::TermMap::is_of_types-returns-then-not-is_of_type-clause-same t c =
    sym (other_type (λ u. type_of (plain_term u)) plain_type c.items-fields.result.now c.items-types.result.now c.loop-i.i c.index-fields-i.result c.index-types-i.result c.loop-i-test.true (omega (arith, c.loop-i-test.true, c.if-fields-types.false)) c.index-fields-i.is c.index-types-i.is (sym c.is_of_type.ensures.same ∙ c.if-not-is_of_type.true)) ∙ c.loop-i.invariant ∙ alike_types-are c.args.self.now (plain_attributes c.args.types.now) c.items-fields.result.now c.items-types.result.now c.items-fields.ensures.same c.items-types.ensures.plain

pub maps::TermMap::is_of_types-returns-then-not-is_of_type-clause-turned : goal.maps::TermMap::is_of_types-returns-then-not-is_of_type-clause-turned
maps::TermMap::is_of_types-returns-then-not-is_of_type-clause-turned t c =
    maps::TermMap::is_of_types-returns-then-not-is_of_type-clause-same t c ∙ type_eq-turned (RecordType (field_types (record_fields (plain_fields c.args.self.now)))) (RecordType (attribute_types (plain_attributes c.args.types.now)))

pub maps::TermMap::is_of_types-loop-i-preserved : goal.maps::TermMap::is_of_types-loop-i-preserved
maps::TermMap::is_of_types-loop-i-preserved t c =
    alike_next (λ u. type_of (plain_term u)) plain_type c.items-fields.result.now c.items-types.result.now c.loop-i.i c.index-fields-i.result c.index-types-i.result c.loop-i-test.true (omega (arith, c.loop-i-test.true, c.if-fields-types.false)) c.index-fields-i.is c.index-types-i.is (sym c.is_same_attribute.ensures ∙ c.if-not-is_same_attribute.false) (sym c.is_of_type.ensures.same ∙ c.if-not-is_of_type.false) ∙ c.loop-i.invariant

pub maps::TermMap::is_of_types-returns-clause-same : goal.maps::TermMap::is_of_types-returns-clause-same
maps::TermMap::is_of_types-returns-clause-same t c =
    sym (alike_none (λ u. type_of (plain_term u)) plain_type c.items-fields.result.now c.items-types.result.now c.loop-i.i (omega (arith, c.loop-i-test.false)) (omega (arith, c.loop-i-test.false, c.if-fields-types.false))) ∙ c.loop-i.invariant ∙ alike_types-are c.args.self.now (plain_attributes c.args.types.now) c.items-fields.result.now c.items-types.result.now c.items-fields.ensures.same c.items-types.ensures.plain

pub maps::TermMap::is_of_types-returns-clause-turned : goal.maps::TermMap::is_of_types-returns-clause-turned
maps::TermMap::is_of_types-returns-clause-turned t c =
    maps::TermMap::is_of_types-returns-clause-same t c ∙ type_eq-turned (RecordType (field_types (record_fields (plain_fields c.args.self.now)))) (RecordType (attribute_types (plain_attributes c.args.types.now)))
