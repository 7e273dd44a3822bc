use Rattle.std.proofs.Common.{Option, ap, map, subst, sym, ◌∙◌}
use Rattle.std.specs.Prelude.{is_some, IfOk}
use Rattle.law_texts.specs.SharedTexts.{texts}
use Rattle.law_texts.specs.Reading.{Expression}
use Rattle.law_lines.specs.LineForms.{operator_head}
use Rattle.law_lines.specs.Lines.{Written}
use Rattle.law_terms.specs.Faults.{Fault}
use Rattle.smt_spelling.specs.TextFaults.{Finds}
use Rattle.smt_term.specs.View.{plain_op, plain_term}
use Rattle.smt_encode.specs.Applied.{WroteApplied}
use Rattle.smt_nodes.specs.Interned.{KeepsMeanings}
use Rattle.smt_spelling.specs.Names.{enums_under, KeepLevels}
use Rattle.smt_spelling.specs.declared.names.Names.{Names}
use Rattle.smt_encode.specs.Refusals.{write_fault}
use Rattle.smt_encode.proofs.Applying.{applied_alone, own_text}
use Rattle.smt_spelling.proofs.Named.{names_alone}
use Rattle.smt_encode.proofs.writer.Writer.put_application.Goals as goal

pub returns-in_default : goal.returns-in_default
returns-in_default g c =
    let o = plain_op c.args.op.now in
    let es = texts c.args.t_encs.now in
    let ts = map plain_term c.args.ts.now in
    let enums = enums_under c.args.self.now.names in
    let own = own_text c.args.op.now c.in_default.not-RecordGet c.in_default.not-Uuf in
    let alone = c.put_operator.ensures.alone in
    record {
      lines = λ s has.
          subst (λ (w : Written Expression). IfOk c.put_operator.result (WroteApplied g.S.Sink.contents c.args.self.now c.put_operator.new.self w o c.args.ty_enc.now es)) (sym (own.head enums ts s))
          (applied_alone g.S.Sink.contents c.args.self.now c.put_operator.new.self (operator_head o) o c.args.ty_enc.now es s c.put_operator.result has alone.names (c.put_operator.ensures.lines s (names_alone c.args.self.now.names s has)));
      counted = alone.counted;
      finds = λ s has. subst (λ (f : Option Fault). Finds write_fault f c.put_operator.result) (sym (own.fault enums s ts)) alone.finds;
      unput = λ s has no some. alone.nothing_put (ap is_some (sym (own.fault enums s ts)) ∙ some);
      numbers = subst (λ (n : Names). KeepsMeanings c.args.self.now.names.nodes n.nodes) (sym alone.names) (λ id m h. h);
      levels = λ below keep. subst (λ (n : Names). KeepLevels n below) (sym alone.names) keep;
    }
