use Rattle.std.proofs.Common.{subst, sym, ◌∙◌}
use Rattle.std.specs.Prelude.{IfOk}
use Rattle.std.specs.Rc.{rc_str_bytes}
use Rattle.law_texts.specs.SharedTexts.{texts}
use Rattle.law_lines.specs.Lines.{made_of}
use Rattle.law_terms.specs.Plain.{RecordGetOp, PlainType}
use Rattle.smt_term.specs.View.{plain_type}
use Rattle.smt_encode.specs.Applied.{WroteApplied}
use Rattle.smt_spelling.specs.NodeEntries.{selector}
use Rattle.smt_encode.proofs.Applying.{applied_alone, first_typed}
use Rattle.smt_spelling.proofs.Named.{names_alone}
use Rattle.smt_encode.proofs.writer.Writer.put_first_selection.Goals as goal

pub returns-in_ok-ty-in-len1-up-clause-lines : goal.returns-in_ok-ty-in-len1-up-clause-lines
returns-in_ok-ty-in-len1-up-clause-lines g c s has =
    let a = rc_str_bytes c.args.attribute.now in
    let es = texts c.args.t_encs.now in
    let typed = c.in_ok-ty-in-len1-up.ensures ∙ sym (first_typed c.args.ts.now c.first-item.result c.in-len1-up.len_at_least c.first-item.is) in
    let t = plain_type c.in_ok-ty-in-len1-up.ty in
    subst (λ (u : PlainType). IfOk c.put_selection.result (WroteApplied g.S.Sink.contents c.args.self.now c.put_selection.new.self (made_of (selector a u s) s) (RecordGetOp a) c.args.ty_enc.now es)) typed
    (applied_alone g.S.Sink.contents c.args.self.now c.put_selection.new.self (selector a t s) (RecordGetOp a) c.args.ty_enc.now es s c.put_selection.result has c.put_selection.ensures.names (c.put_selection.ensures.lines s (names_alone c.args.self.now.names s has)))
