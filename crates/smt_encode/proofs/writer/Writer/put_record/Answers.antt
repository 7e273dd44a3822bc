use Rattle.std.proofs.Common.{◌≡◌, ℕ, List, [], ap, subst, ◌∙◌}
use Rattle.std.specs.Prelude.{IfOk}
use Rattle.law_texts.specs.LineTexts.{define_fun_text}
use Rattle.law_texts.specs.SharedTexts.{texts}
use Rattle.law_lines.specs.Lines.{next_term}
use Rattle.smt_encode.specs.Alone.{record_body_text, PutUnder}
use Rattle.smt_encode.proofs.writer.Writer.put_record.Goals as goal

pub returns-clause-lines : goal.returns-clause-lines
returns-clause-lines g c s has =
    let sort = c.args.ty_enc.now in
    let body : c.as_str.result.now ≡ record_body_text sort (texts c.args.t_encs.now) = c.as_str.ensures.value ∙ c.in_ok-body.ensures in
    subst (λ (b : List ℕ). IfOk c.put_term.result (PutUnder g.S.Sink.contents c.args.self.now.script c.put_term.new.self.script (next_term s) b))
    (ap (define_fun_text (next_term s) [] sort) body) (c.put_term.ensures.lines s has)
