use Rattle.std.proofs.Common.{◌≡◌, Some, ap, subst, sym, ◌∙◌}
use Rattle.law_texts.specs.SharedTexts.{texts}
use Rattle.smt_stream.specs.Words.{commanded}
use Rattle.smt_stream.specs.declared.command.Command.TheVariants.{Solve}
use Rattle.std.specs.Prelude.{IfOk}
use Rattle.smt_stream.specs.Runs.{IsDone}
use Rattle.smt_stream.proofs.Leading.{conversed}
use Rattle.smt_stream.proofs.run.answer.Goals as goal

pub returns-in_ok-stream-in-Some-Solve-clause-done : goal.returns-in_ok-stream-in-Some-Solve-clause-done
returns-in_ok-stream-in-Some-Solve-clause-done g c =
    let what : commanded (texts c.args.words.now) ≡ Some Solve = sym c.command_of.ensures ∙ c.in-Some-Solve.is ∙ ap Some c.in-Some-Solve.field-0-is in
    let left = g.R.Source.remaining c.args.source.now in
    let behind = g.R.Source.remaining c.converse.new.source in
    let before = g.W.Sink.contents c.args.out.now in
    let after = g.W.Sink.contents c.finish.new.out in
    subst (λ w. IfOk c.finish.result (IsDone left behind before after w)) (sym what)
    (conversed left behind before (g.W.Sink.contents c.converse.new.out) after c.in_ok-stream-in-Some-Solve.stream c.finish.result c.in_ok-stream-in-Some-Solve.ensures.led c.finish.ensures.done)
