use Rattle.std.proofs.Common.{◌≡◌, ap, refl, sym, ◌∙◌}
use Rattle.std.specs.Io.KnownBytes.{append_known}
use Rattle.law_texts.specs.SharedTexts.{texts}
use Rattle.law_lines.specs.Line.{spelled_lines}
use Rattle.law_lines.specs.LineForms.{record_lines}
use Rattle.law_lines.specs.Lines.{next_record}
use Rattle.smt_spelling.specs.Entries.{datatype_bytes}
use Rattle.smt_encode.proofs.Stopping.{none_of_it, on_error, part_along}
use Rattle.smt_encode.proofs.writer.Writer.put_record_type.Goals as goal

pub returns-clause-lines : goal.returns-clause-lines
returns-clause-lines g c s es has shown =
    let name = c.in_ok-name.ensures s has in
    let named : c.as_str.result.now ≡ next_record s = c.as_str.ensures.value ∙ name in
    let bytes : datatype_bytes c.in_ok-datatype.datatype c.as_str-2.result.now ≡ spelled_lines (record_lines (texts c.args.attributes.now) (next_record s) es) =
    ap (datatype_bytes c.in_ok-datatype.datatype) (c.as_str-2.ensures.value ∙ sym c.as_str.ensures.value) ∙ c.in_ok-datatype.ensures es shown ∙ (λ i. spelled_lines (record_lines (texts c.args.attributes.now) (named i) es)) in
    let put = ◌∙◌ {b = append_known (g.S.Sink.contents c.args.self.now.script) (datatype_bytes c.in_ok-datatype.datatype c.as_str-2.result.now)} c.in_ok-put.ensures.ok (ap (append_known (g.S.Sink.contents c.args.self.now.script)) bytes) in
    record { got = put; named = name }

pub returns-in_err-name-clause-part : goal.returns-in_err-name-clause-part
returns-in_err-name-clause-part g c s es has shown = on_error c.from_residual.result (none_of_it _ _ _ refl)

pub returns-in_err-datatype-clause-part : goal.returns-in_err-datatype-clause-part
returns-in_err-datatype-clause-part g c s es has shown = on_error c.from_residual-in_err-datatype.result (none_of_it _ _ _ refl)

pub returns-in_err-put-clause-part : goal.returns-in_err-put-clause-part
returns-in_err-put-clause-part g c s es has shown =
    let named : c.as_str.result.now ≡ next_record s = c.as_str.ensures.value ∙ c.in_ok-name.ensures s has in
    let bytes : datatype_bytes c.in_ok-datatype.datatype c.as_str-2.result.now ≡ spelled_lines (record_lines (texts c.args.attributes.now) (next_record s) es) =
    ap (datatype_bytes c.in_ok-datatype.datatype) (c.as_str-2.ensures.value ∙ sym c.as_str.ensures.value) ∙ c.in_ok-datatype.ensures es shown ∙ (λ i. spelled_lines (record_lines (texts c.args.attributes.now) (named i) es)) in
    on_error c.from_residual-in_err-put.result (part_along _ _ _ _ bytes c.in_err-put.ensures.err)
