use Rattle.std.proofs.Common.{refl}
use Rattle.smt_script.specs.Sink.{Rose}
use Rattle.smt_runs.specs.Runs.{Fails, around}
use Rattle.smt_runs.proofs.Verdicts.{by_refusal}
use Rattle.smt_eval.specs.Causes.{WhyNotEvaluated}
use Rattle.smt_eval.proofs.Inputs.{unread_failed, unread_known}
use Rattle.smt_eval.proofs.Running.{evaluates, read_evaluable}
use Rattle.smt_eval.proofs.program.evaluate.Goals as goal

pub truths_of-requires : goal.truths_of-requires
truths_of-requires g c = record { evaluable = read_evaluable (g.R.Source.remaining c.args.source.now) c.in_ok-input.input c.in_ok-input.ensures.input }

pub returns-in_err-input-clause-failed : goal.returns-in_err-input-clause-failed
returns-in_err-input-clause-failed g c =
    let source_failed = Rose (g.R.Source.faults c.args.source.now) (g.R.Source.faults c.input_from.new.source) in
    let sink_failed = Rose (g.W.Sink.faults c.args.out.now) (g.W.Sink.faults c.args.out.now) in
    by_refusal (Fails source_failed sink_failed) c.from_residual.result c.in_err-input.field-0.0 c.from_residual.ensures.1 (unread_failed _ source_failed sink_failed c.in_err-input.field-0.0 c.in_err-input.ensures.refused)

pub returns-in_err-input-clause-known : goal.returns-in_err-input-clause-known
returns-in_err-input-clause-known g c =
    let before = around g.R.Source.remaining g.W.Sink.contents c.args.source.now c.args.out.now tt in
    let after = around g.R.Source.remaining g.W.Sink.contents c.input_from.new.source c.args.out.now tt in
    by_refusal (WhyNotEvaluated before after) c.from_residual.result c.in_err-input.field-0.0 c.from_residual.ensures.1
    (unread_known before after (Rose (g.R.Source.faults c.args.source.now) (g.R.Source.faults c.input_from.new.source)) c.in_err-input.field-0.0 refl c.in_err-input.ensures.refused)

pub returns-clause-done : goal.returns-clause-done
returns-clause-done g c =
    let left = g.R.Source.remaining c.args.source.now in
    let read = c.in_ok-input.ensures in
    record { holds = evaluates left c.in_ok-input.input read.input c.in_ok-truths.truths.items c.as_slice.result.now (g.W.Sink.contents c.args.out.now) (g.W.Sink.contents c.put_truths.new.out) c.in_ok-truths.ensures.truths c.as_slice.ensures.value c.in_ok-put_truths.ensures.puts; ended = read.ended }
