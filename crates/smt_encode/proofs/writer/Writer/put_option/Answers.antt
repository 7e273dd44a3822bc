use Rattle.std.proofs.Common.{ap, append-nil, refl, sym, ◌∙◌}
use Rattle.std.specs.Io.KnownBytes.{append_known}
use Rattle.law_lines.specs.Line.{spelled_line}
use Rattle.law_lines.specs.Lines.{option_line}
use Rattle.smt_encode.proofs.Lines.{option_bytes}
use Rattle.smt_encode.proofs.Stopping.{none_of_it, on_error}
use Rattle.smt_encode.proofs.writer.Writer.put_option.Goals as goal

pub returns-clause-lines : goal.returns-clause-lines
returns-clause-lines g c = record {
  got = c.in_ok-declare_datatype.ensures.ok ∙ ap (append_known (g.S.Sink.contents c.args.self.now.script)) (option_bytes _ _ _ c.in_ok-parameter.ensures.ok c.in_ok-none.ensures.ok c.in_ok-some.ensures.ok ∙ sym (append-nil (spelled_line option_line)));
  same_names = refl;
}

pub returns-in_err-none-clause-part : goal.returns-in_err-none-clause-part
returns-in_err-none-clause-part g c = on_error c.from_residual-in_err-none.result (none_of_it _ _ _ refl)
