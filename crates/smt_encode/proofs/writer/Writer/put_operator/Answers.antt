use Rattle.std.proofs.Common.{◌≡◌, ℕ, List, [], map, ap, subst, ◌∙◌}
use Rattle.std.specs.Prelude.{IfOk}
use Rattle.law_texts.specs.LineTexts.{define_fun_text}
use Rattle.law_texts.specs.SharedTexts.{texts}
use Rattle.law_lines.specs.LineForms.{application_body, operator_head}
use Rattle.law_lines.specs.Lines.{next_term}
use Rattle.law_lines.specs.Spelling.{spelled}
use Rattle.law_scripts.specs.Script.{name}
use Rattle.smt_term.specs.View.{plain_op}
use Rattle.smt_encode.specs.Alone.{PutUnder}
use Rattle.smt_encode.proofs.Bodies.{as_they_stand, clones_say}
use Rattle.smt_encode.proofs.writer.Writer.put_operator.Goals as goal

pub returns-clause-lines : goal.returns-clause-lines
returns-clause-lines g c s has =
    let o = plain_op c.args.op.now in
    let es = texts c.args.t_encs.now in
    let shown = clones_say c.args.t_encs.now c.in_ok-operands.operands.items c.in_ok-operands.ensures.ok ∙ as_they_stand es in
    let body : c.as_str.result.now ≡ spelled (application_body (operator_head o) o (map name es)) = c.as_str.ensures.value ∙ c.in_ok-body.ensures.text (map name es) shown in
    subst (λ (b : List ℕ). IfOk c.put_term.result (PutUnder g.S.Sink.contents c.args.self.now.script c.put_term.new.self.script (next_term s) b))
    (ap (define_fun_text (next_term s) [] c.args.ty_enc.now) body) (c.put_term.ensures.lines s has)
