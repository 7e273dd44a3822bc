use Rattle.std.proofs.Common.{◌≡◌, ℕ, List, [], map, ap, arith, refl, subst, ◌∙◌}
use Rattle.std.specs.Prelude.{IfOk}
use Rattle.std.specs.Rc.{rc_str_bytes}
use Rattle.law_texts.specs.LineTexts.{define_fun_text}
use Rattle.law_texts.specs.SharedTexts.{texts}
use Rattle.law_lines.specs.Lines.{next_term}
use Rattle.law_scripts.specs.Script.{name}
use Rattle.smt_term.specs.View.{plain_type}
use Rattle.smt_encode.specs.Alone.{PutUnder}
use Rattle.smt_encode.specs.Applied.{selection_text}
use Rattle.smt_spelling.specs.SelectorFaults.{fault_of_selection}
use Rattle.smt_spelling.specs.NodeEntries.{selector}
use Rattle.smt_encode.proofs.Applying.{no_failure}
use Rattle.smt_encode.proofs.Bodies.{as_they_stand}
use Rattle.smt_encode.proofs.Handed.{handed_from}
use Rattle.smt_encode.proofs.writer.Writer.put_selection.Goals as goal

pub returns-in_err-selector-clause-counted : goal.returns-in_err-selector-clause-counted
returns-in_err-selector-clause-counted g c = record {
  held = record { later = omega (arith); sink = refl; enums = refl };
  cause = λ is. absurd (no_failure c.in_err-selector.field-0.0 c.from_residual.result c.from_residual.ensures.1 is);
}

pub returns-in_err-selector-clause-alone : goal.returns-in_err-selector-clause-alone
returns-in_err-selector-clause-alone g c s are =
    let fault = fault_of_selection s (rc_str_bytes c.args.attribute.now) (plain_type c.args.ty.now) in
    record {
      counted = returns-in_err-selector-clause-counted g c;
      finds = handed_from fault c.in_err-selector.field-0.0 c.from_residual.result c.from_residual.ensures.1 (c.in_err-selector.ensures.fault s are);
      names = refl;
      nothing_put = λ some. refl;
    }

pub returns-clause-lines : goal.returns-clause-lines
returns-clause-lines g c s are =
    let a = rc_str_bytes c.args.attribute.now in
    let t = plain_type c.args.ty.now in
    let es = texts c.args.operands.now in
    let body : c.as_str-2.result.now ≡ selection_text a t es s =
    c.as_str-2.ensures.value ∙ c.in_ok-body.ensures (selector a t s) (map name es) (c.as_str.ensures.value ∙ c.in_ok-selector.ensures.text s are) (as_they_stand es) in
    subst (λ (b : List ℕ). IfOk c.put_term.result (PutUnder g.S.Sink.contents c.args.self.now.script c.put_term.new.self.script (next_term s) b))
    (ap (define_fun_text (next_term s) [] c.args.ty_enc.now) body) (c.put_term.ensures.lines s are)
