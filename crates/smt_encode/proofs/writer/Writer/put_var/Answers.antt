use Rattle.std.proofs.Common.{◌≡◌, ℕ, List, ◌++◌, ap, subst, ◌∙◌}
use Rattle.std.specs.Prelude.{IfOk}
use Rattle.std.specs.Rc.{rc_str_bytes}
use Rattle.std.specs.String.{string_bytes}
use Rattle.law_texts.specs.LineTexts.{comment_text, declare_const_text}
use Rattle.law_texts.specs.Quoting.{quoted_id}
use Rattle.law_lines.specs.Lines.{next_term}
use Rattle.smt_spelling.specs.Entries.{ByConstant}
use Rattle.smt_encode.specs.Alone.{PutUnder}
use Rattle.smt_encode.proofs.writer.Writer.put_var.Goals as goal

pub returns-clause-lines : goal.returns-clause-lines
returns-clause-lines g c s has =
    let id = rc_str_bytes c.args.v.now.id in
    let says : string_bytes c.in_ok-comment.comment ≡ quoted_id id = c.in_ok-comment.ensures ∙ ap quoted_id c.as_str.ensures.value in
    subst (λ (b : List ℕ). IfOk c.put_entry.result (PutUnder g.S.Sink.contents c.args.self.now.script c.put_entry.new.self.script (next_term s) b))
    (ap (λ q. comment_text q ++ declare_const_text (next_term s) c.args.ty_enc.now) says) (c.put_entry.ensures.lines s (ByConstant id) has says)
