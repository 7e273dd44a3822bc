use Rattle.std.proofs.Common.{◌+◌, ◌&&◌, refl, sym, ap, ◌∙◌, arith, drop, map}
use Rattle.law_terms.specs.Types.{is_type, result_type, type_of}
use Rattle.law_terms.specs.TermOrder.{term_cmp}
use Rattle.law_terms.specs.ValueOrder.{ascends}
use Rattle.smt_term.specs.View.{plain_op, plain_term, plain_type}
use Rattle.smt_term.proofs.RecordFields.{are_typed_fields, record_typed, typed_field_more, typed_field_none}
use Rattle.smt_term.proofs.TypedArguments.{application_typed, are_all, not_given, set_typed, typed_list, typed_more, typed_none}
use Rattle.smt_term.proofs.term.Term.+well_typed.Goals as goal

pub loop-arg-init : goal.loop-arg-init
loop-arg-init t c = refl

pub returns-then-not-well_typed : goal.returns-then-not-well_typed
returns-then-not-well_typed t c =
    let untyped = sym c.well_typed.ensures ∙ c.if-not-well_typed.true in
    let left = typed_more c.items-args.result.now c.loop-arg.arg-index c.arg-item.result c.loop-arg-test.true c.arg-item.is in
    let none = sym c.loop-arg.invariant ∙ left ∙ ap (λ b. b && typed_list (drop (c.loop-arg.arg-index + 1) c.items-args.result.now)) untyped in
    sym (application_typed c.args.self.now c.in-App.op c.in-App.args c.in-App.ret_ty c.items-args.result.now c.in-App.is c.items-args.ensures.plain
    ∙ ap (λ b. b && is_type (result_type (plain_op c.in-App.op) (map type_of (map plain_term c.items-args.result.now))) (plain_type c.in-App.ret_ty)) none)

pub loop-arg-preserved : goal.loop-arg-preserved
loop-arg-preserved t c =
    let typed = sym c.well_typed.ensures ∙ c.if-not-well_typed.false in
    let left = typed_more c.items-args.result.now c.loop-arg.arg-index c.arg-item.result c.loop-arg-test.true c.arg-item.is in
    sym (left ∙ ap (λ b. b && typed_list (drop (c.loop-arg.arg-index + 1) c.items-args.result.now)) typed) ∙ c.loop-arg.invariant

pub returns-then-takes : goal.returns-then-takes
returns-then-takes t c =
    let all = sym c.loop-arg.invariant ∙ typed_none c.items-args.result.now c.loop-arg.arg-index (omega (arith, c.loop-arg-test.false)) in
    let given = is_type (result_type (plain_op c.in-App.op) (map type_of (map plain_term c.items-args.result.now))) (plain_type c.in-App.ret_ty) in
    c.gives.ensures (sym c.takes.ensures ∙ c.if-takes.true) ∙ sym (application_typed c.args.self.now c.in-App.op c.in-App.args c.in-App.ret_ty c.items-args.result.now c.in-App.is c.items-args.ensures.plain ∙ ap (λ b. b && given) all)

pub returns-else-takes : goal.returns-else-takes
returns-else-takes t c =
    let all = sym c.loop-arg.invariant ∙ typed_none c.items-args.result.now c.loop-arg.arg-index (omega (arith, c.loop-arg-test.false)) in
    let given = is_type (result_type (plain_op c.in-App.op) (map type_of (map plain_term c.items-args.result.now))) (plain_type c.in-App.ret_ty) in
    let none = not_given (result_type (plain_op c.in-App.op) (map type_of (map plain_term c.items-args.result.now))) (plain_type c.in-App.ret_ty) (sym c.takes.ensures ∙ c.if-takes.false) in
    c.if-takes.false ∙ sym (application_typed c.args.self.now c.in-App.op c.in-App.args c.in-App.ret_ty c.items-args.result.now c.in-App.is c.items-args.ensures.plain ∙ ap (λ b. b && given) all ∙ none)

pub returns-then-not-well_typed-2 : goal.returns-then-not-well_typed-2
returns-then-not-well_typed-2 t c =
    let items = c.items-fields.result.now in
    let untyped = sym c.well_typed-in-loop-field.ensures ∙ c.if-not-well_typed-2.true in
    let left = typed_field_more items c.loop-field.field-index c.loop-field-item.result c.loop-field-test.true c.loop-field-item.is in
    let none = sym c.loop-field.invariant ∙ left ∙ ap (λ b. b && are_typed_fields (drop (c.loop-field.field-index + 1) items)) untyped in
    sym (record_typed c.args.self.now c.in-Record.fields items c.in-Record.is c.items-fields.ensures.same ∙ none)

pub loop-field-preserved : goal.loop-field-preserved
loop-field-preserved t c =
    let items = c.items-fields.result.now in
    let typed = sym c.well_typed-in-loop-field.ensures ∙ c.if-not-well_typed-2.false in
    let left = typed_field_more items c.loop-field.field-index c.loop-field-item.result c.loop-field-test.true c.loop-field-item.is in
    sym (left ∙ ap (λ b. b && are_typed_fields (drop (c.loop-field.field-index + 1) items)) typed) ∙ c.loop-field.invariant

pub returns-after-loop-field : goal.returns-after-loop-field
returns-after-loop-field t c =
    let items = c.items-fields.result.now in
    let all = sym c.loop-field.invariant ∙ typed_field_none items c.loop-field.field-index (omega (arith, c.loop-field-test.false)) in
    sym (record_typed c.args.self.now c.in-Record.fields items c.in-Record.is c.items-fields.ensures.same ∙ all)

pub returns-then-not-well_typed-3 : goal.returns-then-not-well_typed-3
returns-then-not-well_typed-3 t c =
    let items = c.items-elements.result.now in
    let untyped = sym c.well_typed-in-loop-element.ensures ∙ c.if-not-well_typed-3.true in
    let left = typed_more items c.loop-element.element-index c.element-item.result c.loop-element-test.true c.element-item.is in
    let none = sym c.loop-element.invariant ∙ left ∙ ap (λ b. b && typed_list (drop (c.loop-element.element-index + 1) items)) untyped in
    sym (set_typed c.args.self.now c.in-Set.elts_ty c.in-Set.elts items c.in-Set.is c.items-elements.ensures.plain ∙ ap (λ b. b && (are_all c.in-Set.elts_ty items && ascends term_cmp (map plain_term items))) none)

pub loop-element-preserved : goal.loop-element-preserved
loop-element-preserved t c =
    let items = c.items-elements.result.now in
    let typed = sym c.well_typed-in-loop-element.ensures ∙ c.if-not-well_typed-3.false in
    let left = typed_more items c.loop-element.element-index c.element-item.result c.loop-element-test.true c.element-item.is in
    sym (left ∙ ap (λ b. b && typed_list (drop (c.loop-element.element-index + 1) items)) typed) ∙ c.loop-element.invariant

pub returns-then-are_of_type : goal.returns-then-are_of_type
returns-then-are_of_type t c =
    let items = c.items-elements.result.now in
    let all = sym c.loop-element.invariant ∙ typed_none items c.loop-element.element-index (omega (arith, c.loop-element-test.false)) in
    c.ascend.ensures ∙ sym (set_typed c.args.self.now c.in-Set.elts_ty c.in-Set.elts items c.in-Set.is c.items-elements.ensures.plain
    ∙ ap (λ b. b && (are_all c.in-Set.elts_ty items && ascends term_cmp (map plain_term items))) all
    ∙ ap (λ b. b && ascends term_cmp (map plain_term items)) (sym c.are_of_type.ensures ∙ c.if-are_of_type.true))

pub returns-else-are_of_type : goal.returns-else-are_of_type
returns-else-are_of_type t c =
    let items = c.items-elements.result.now in
    let all = sym c.loop-element.invariant ∙ typed_none items c.loop-element.element-index (omega (arith, c.loop-element-test.false)) in
    c.if-are_of_type.false ∙ sym (set_typed c.args.self.now c.in-Set.elts_ty c.in-Set.elts items c.in-Set.is c.items-elements.ensures.plain
    ∙ ap (λ b. b && (are_all c.in-Set.elts_ty items && ascends term_cmp (map plain_term items))) all
    ∙ ap (λ b. b && ascends term_cmp (map plain_term items)) (sym c.are_of_type.ensures ∙ c.if-are_of_type.false))
