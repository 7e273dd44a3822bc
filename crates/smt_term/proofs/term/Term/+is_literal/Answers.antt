use Rattle.std.proofs.Common.{◌+◌, ◌&&◌, sym, ap, ◌∙◌, arith, drop}
use Rattle.smt_term.proofs.LiteralElements.{literal_list, literals_more, literals_none, set_literal}
use Rattle.smt_term.proofs.RecordFields.{literal_fields, literal_more, literal_none, record_literal}
use Rattle.smt_term.proofs.term.Term.+is_literal.Goals as goal

pub returns-then-not-is_literal : goal.returns-then-not-is_literal
returns-then-not-is_literal t c =
    let items = c.items-fields.result.now in
    let other = sym c.is_literal.ensures ∙ c.if-not-is_literal.true in
    let left = literal_more items c.loop-field.field-index c.loop-field-item.result c.loop-field-test.true c.loop-field-item.is in
    let none = sym c.loop-field.invariant ∙ left ∙ ap (λ b. b && literal_fields (drop (c.loop-field.field-index + 1) items)) other in
    sym (record_literal c.args.self.now c.in-Record.fields items c.in-Record.is c.items-fields.ensures.same ∙ none)

pub loop-field-preserved : goal.loop-field-preserved
loop-field-preserved t c =
    let items = c.items-fields.result.now in
    let literal = sym c.is_literal.ensures ∙ c.if-not-is_literal.false in
    let left = literal_more items c.loop-field.field-index c.loop-field-item.result c.loop-field-test.true c.loop-field-item.is in
    sym (left ∙ ap (λ b. b && literal_fields (drop (c.loop-field.field-index + 1) items)) literal) ∙ c.loop-field.invariant

pub returns-after-loop-field : goal.returns-after-loop-field
returns-after-loop-field t c =
    let items = c.items-fields.result.now in
    let all = sym c.loop-field.invariant ∙ literal_none items c.loop-field.field-index (omega (arith, c.loop-field-test.false)) in
    sym (record_literal c.args.self.now c.in-Record.fields items c.in-Record.is c.items-fields.ensures.same ∙ all)

pub returns-then-not-is_literal-2 : goal.returns-then-not-is_literal-2
returns-then-not-is_literal-2 t c =
    let other = sym c.is_literal-in-loop-element.ensures ∙ c.if-not-is_literal-2.true in
    let left = literals_more c.items-element-items.result.now c.loop-element.element-index c.element-item.result c.loop-element-test.true c.element-item.is in
    let none = sym c.loop-element.invariant ∙ left ∙ ap (λ b. b && literal_list (drop (c.loop-element.element-index + 1) c.items-element-items.result.now)) other in
    sym (set_literal c.args.self.now c.in-Set.elts_ty c.in-Set.elts c.items-element-items.result.now c.in-Set.is c.items-element-items.ensures.plain ∙ none)

pub loop-element-preserved : goal.loop-element-preserved
loop-element-preserved t c =
    let literal = sym c.is_literal-in-loop-element.ensures ∙ c.if-not-is_literal-2.false in
    let left = literals_more c.items-element-items.result.now c.loop-element.element-index c.element-item.result c.loop-element-test.true c.element-item.is in
    sym (left ∙ ap (λ b. b && literal_list (drop (c.loop-element.element-index + 1) c.items-element-items.result.now)) literal) ∙ c.loop-element.invariant

pub returns-after-loop-element : goal.returns-after-loop-element
returns-after-loop-element t c =
    let all = sym c.loop-element.invariant ∙ literals_none c.items-element-items.result.now c.loop-element.element-index (omega (arith, c.loop-element-test.false)) in
    sym (set_literal c.args.self.now c.in-Set.elts_ty c.in-Set.elts c.items-element-items.result.now c.in-Set.is c.items-element-items.ensures.plain ∙ all)
