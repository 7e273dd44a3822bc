use Rattle.std.proofs.Common.{◌≡◌, ℕ, List, [], map, ap, refl, subst, ◌∙◌}
use Rattle.std.specs.Prelude.{IfOk}
use Rattle.law_texts.specs.LineTexts.{define_fun_text}
use Rattle.law_texts.specs.SharedTexts.{texts}
use Rattle.law_lines.specs.Lines.{next_term}
use Rattle.law_scripts.specs.Script.{name}
use Rattle.smt_encode.specs.Alone.{set_body_text, PutUnder}
use Rattle.smt_encode.proofs.Bodies.{as_they_stand, clones_say, set_spelled}
use Rattle.smt_encode.proofs.writer.Writer.put_set.Goals as goal

pub returns-clause-lines : goal.returns-clause-lines
returns-clause-lines g c s has =
    let sort = c.args.ty_enc.now in
    let elements = texts c.args.t_encs.now in
    let shown = clones_say c.args.t_encs.now c.in_ok-elements.elements.items c.in_ok-elements.ensures.ok ∙ as_they_stand elements in
    let body : c.as_str.result.now ≡ set_body_text sort elements = c.as_str.ensures.value ∙ c.in_ok-body.ensures (name sort) (map name elements) refl shown ∙ set_spelled sort elements in
    subst (λ (b : List ℕ). IfOk c.put_term.result (PutUnder g.S.Sink.contents c.args.self.now.script c.put_term.new.self.script (next_term s) b))
    (ap (define_fun_text (next_term s) [] sort) body) (c.put_term.ensures.lines s has)
