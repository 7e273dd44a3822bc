use Rattle.std.proofs.Common.{◌≡◌, ap, refl, sym, ◌∙◌}
use Rattle.std.specs.Io.KnownBytes.{append_known}
use Rattle.smt_term.specs.Entities.{bytes_of_type}
use Rattle.law_lines.specs.Line.{spelled_lines}
use Rattle.law_lines.specs.LineForms.{entity_lines}
use Rattle.law_lines.specs.Lines.{members_of, next_entity}
use Rattle.smt_spelling.specs.Entries.{datatype_bytes}
use Rattle.smt_spelling.specs.Names.{enums_under}
use Rattle.smt_encode.proofs.Stopping.{none_of_it, on_error, part_along}
use Rattle.smt_encode.proofs.writer.Writer.put_entity_type.Goals as goal

pub returns-clause-lines : goal.returns-clause-lines
returns-clause-lines g c s has =
    let e = bytes_of_type c.args.ety.now in
    let enums = enums_under c.args.self.now.names in
    let name = c.in_ok-name.ensures s has in
    let named : c.as_str.result.now ≡ next_entity s = c.as_str.ensures.value ∙ name in
    let members = c.members_of-members.ensures ∙ ap (λ x. members_of x e) c.enums.ensures in
    let bytes : datatype_bytes c.in_ok-datatype.datatype c.as_str-2.result.now ≡ spelled_lines (entity_lines (members_of enums e) e (next_entity s)) =
    ap (datatype_bytes c.in_ok-datatype.datatype) (c.as_str-2.ensures.value ∙ sym c.as_str.ensures.value) ∙ c.in_ok-datatype.ensures.lines ∙ (λ i. spelled_lines (entity_lines (members i) e (named i))) in
    let put = ◌∙◌ {b = append_known (g.S.Sink.contents c.args.self.now.script) (datatype_bytes c.in_ok-datatype.datatype c.as_str-2.result.now)} c.in_ok-put.ensures.ok (ap (append_known (g.S.Sink.contents c.args.self.now.script)) bytes) in
    record { got = put; named = name }

pub returns-in_err-name-clause-part : goal.returns-in_err-name-clause-part
returns-in_err-name-clause-part g c s has = on_error c.from_residual.result (none_of_it _ _ _ refl)

pub returns-in_err-datatype-clause-part : goal.returns-in_err-datatype-clause-part
returns-in_err-datatype-clause-part g c s has = on_error c.from_residual-in_err-datatype.result (none_of_it _ _ _ refl)

pub returns-in_err-put-clause-part : goal.returns-in_err-put-clause-part
returns-in_err-put-clause-part g c s has =
    let e = bytes_of_type c.args.ety.now in
    let enums = enums_under c.args.self.now.names in
    let named : c.as_str.result.now ≡ next_entity s = c.as_str.ensures.value ∙ c.in_ok-name.ensures s has in
    let members = c.members_of-members.ensures ∙ ap (λ x. members_of x e) c.enums.ensures in
    let bytes : datatype_bytes c.in_ok-datatype.datatype c.as_str-2.result.now ≡ spelled_lines (entity_lines (members_of enums e) e (next_entity s)) =
    ap (datatype_bytes c.in_ok-datatype.datatype) (c.as_str-2.ensures.value ∙ sym c.as_str.ensures.value) ∙ c.in_ok-datatype.ensures.lines ∙ (λ i. spelled_lines (entity_lines (members i) e (named i))) in
    on_error c.from_residual-in_err-put.result (part_along _ _ _ _ bytes c.in_err-put.ensures.err)
