use Rattle.std.proofs.Common.{◌≡◌, ap, refl, sym, ◌∙◌, append-nil, []}
use Rattle.std.proofs.lemmas.Result.{IfOk-weaker, on_err_weaker}
use Rattle.std.specs.Io.KnownBytes.{append_known}
use Rattle.law_texts.specs.LineTexts.{declare_datatype_text}
use Rattle.law_texts.specs.SharedTexts.{texts}
use Rattle.smt_term.specs.ExtensionView.{plain_kind}
use Rattle.law_lines.specs.EntryNames.{kind_name}
use Rattle.law_lines.specs.Line.{spelled_lines}
use Rattle.law_lines.specs.LineForms.{kind_lines}
use Rattle.smt_encode.proofs.Stopping.{none_of_it, on_error, part_along}
use Rattle.smt_encode.proofs.writer.Writer.put_ext_type.Goals as goal

pub returns-clause-lines : goal.returns-clause-lines
returns-clause-lines g c =
    let k = plain_kind c.args.xty in
    let made = ap texts c.as_slice.ensures.value ∙ c.in_ok-constructors.ensures in
    let bytes : declare_datatype_text c.extension_name.result.now [] (texts c.as_slice.result.now) ≡ spelled_lines (kind_lines k (kind_name k)) =
    (λ i. declare_datatype_text (c.extension_name.ensures i) [] (made i)) ∙ sym (append-nil _) in
    IfOk-weaker c.put_type.result _ _ (λ text put. record { got = put.got ∙ ap (append_known (g.S.Sink.contents c.args.self.now.script)) bytes; named = put.named ∙ c.extension_name.ensures }) c.put_type.ensures.lines

pub returns-in_err-constructors-clause-part : goal.returns-in_err-constructors-clause-part
returns-in_err-constructors-clause-part g c = on_error c.from_residual.result (none_of_it _ _ _ refl)

pub returns-clause-part : goal.returns-clause-part
returns-clause-part g c =
    let k = plain_kind c.args.xty in
    let made = ap texts c.as_slice.ensures.value ∙ c.in_ok-constructors.ensures in
    let bytes : declare_datatype_text c.extension_name.result.now [] (texts c.as_slice.result.now) ≡ spelled_lines (kind_lines k (kind_name k)) =
    (λ i. declare_datatype_text (c.extension_name.ensures i) [] (made i)) ∙ sym (append-nil _) in
    on_err_weaker c.put_type.result (part_along _ _ _ _ bytes) c.put_type.ensures.part
