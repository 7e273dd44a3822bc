use Rattle.std.proofs.Common.{map, ap, ◌∙◌, arith}
use Rattle.std.proofs.lemmas.List.{take_all}
use Rattle.smt_term.specs.View.{plain_attributes, plain_type-Record}
use Rattle.smt_term.proofs.RecordFields.{field_type, record_type, types_ascend}
use Rattle.smt_term.proofs.term.Term.+type_of.Goals as goal

pub of_ascending-requires : goal.of_ascending-requires
of_ascending-requires t c =
    let items = c.items-fields.result.now in
    types_ascend c.in-Record.fields items c.loop-name.types.items c.items-fields.ensures.same (c.loop-name.invariant ∙ ap (map field_type) (take_all c.loop-name.name-index items (omega (arith, c.loop-name-test.false))))

pub returns-in_ok-of_ascending-in-Record : goal.returns-in_ok-of_ascending-in-Record
returns-in_ok-of_ascending-in-Record t c =
    let items = c.items-fields.result.now in
    let made = c.in_ok-of_ascending-in-Record.field-0 in
    plain_type-Record made
    ∙ record_type c.args.self.now c.in-Record.fields items (plain_attributes made) c.in-Record.is c.items-fields.ensures.same (c.in_ok-of_ascending-in-Record.ensures ∙ (c.loop-name.invariant ∙ ap (map field_type) (take_all c.loop-name.name-index items (omega (arith, c.loop-name-test.false)))))
