use Rattle.std.proofs.Common.{rules, sym, ap, append-nil, ◌∙◌}
use Rattle.std.specs.Io.KnownBytes.{append_known}
use Rattle.law_lines.specs.Line.{Assert, spelled_line}
use Rattle.law_texts.specs.LineTexts.{assert_text}
use Rattle.smt_encode.proofs.Cut.{assertion_cut}
use Rattle.smt_encode.proofs.Scripted.{asserted, spelled_at}
use Rattle.smt_encode.proofs.Stopping.{on_error}
use Rattle.smt_encode.proofs.writer.Writer.put_assertions.Goals as goal

pub loop-text-preserved : goal.loop-text-preserved
loop-text-preserved g c = record {
  cause = search rules;
  names = c.loop-text.invariant.names;
  going = λ s es has shown.
      let this = spelled_at es c.args.texts.now c.loop-text.text-index c.text-item.result shown c.loop-text-test.true c.text-item.is in
      let going = c.loop-text.invariant.going s es has shown in
      let line = ap assert_text (c.as_str.ensures.value ∙ this.spells) ∙ sym (append-nil (spelled_line (Assert this.expression))) in
      asserted es c.loop-text.text-index this.expression s this.behind going
      (record { names = going.names; contents_are = c.in_ok-assert.ensures.ok ∙ ap (append_known (g.S.Sink.contents c.loop-text.self.script)) line });
}

pub returns-in_err-assert-clause-part : goal.returns-in_err-assert-clause-part
returns-in_err-assert-clause-part g c s es has shown =
    let this = spelled_at es c.args.texts.now c.loop-text.text-index c.text-item.result shown c.loop-text-test.true c.text-item.is in
    let going = c.loop-text.invariant.going s es has shown in
    on_error c.from_residual.result
    (assertion_cut (g.S.Sink.contents c.args.self.now.script) (g.S.Sink.contents c.loop-text.self.script) _ es c.loop-text.text-index this.expression _ this.behind (ap assert_text (c.as_str.ensures.value ∙ this.spells)) going.contents_are c.in_err-assert.ensures.err)
