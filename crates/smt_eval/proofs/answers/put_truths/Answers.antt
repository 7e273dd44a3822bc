use Rattle.std.proofs.Common.{◌∙◌, ap, arith}
use Rattle.std.proofs.lemmas.List.{take_all}
use Rattle.smt_eval.specs.Answers.{verdict_line}
use Rattle.smt_eval.proofs.Truths.{last_line}
use Rattle.smt_eval.proofs.answers.put_truths.Goals as goal

pub returns-clause-puts : goal.returns-clause-puts
returns-clause-puts g c =
    last_line c.put-2.result (g.W.Sink.contents c.args.out.now) (g.W.Sink.contents c.loop-truth.out) (g.W.Sink.contents c.put-2.new.self) c.args.truths.now _ c.as_bytes-2.result.now (take_all c.loop-truth.truth-index c.args.truths.now (omega (arith, c.loop-truth-test.false))) c.loop-truth.invariant.0
    (c.as_bytes-2.ensures.value ∙ c.line_of_verdict.ensures ∙ ap verdict_line c.are_all.ensures) c.put-2.ensures.ok
