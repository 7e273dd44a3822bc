use Rattle.std.proofs.Common.{◌≡◌, refl}
use Rattle.std.specs.Io.KnownBytes.{append_known}
use Rattle.smt_script.specs.Sink.{Rose}
use Rattle.smt_runs.specs.Runs.{Fails, around}
use Rattle.smt_runs.proofs.Told.{of_error, on_ok}
use Rattle.smt_runs.proofs.Verdicts.{by_refusal}
use Rattle.smt_blast.specs.Causes.{HasPutCause, WhyNotBlasted, current_terms}
use Rattle.smt_blast.specs.Meaning.{blasted_text}
use Rattle.smt_blast.specs.Run.{ReadsAndPrints}
use Rattle.smt_blast.proofs.Running.{prints, taken_job, unput_failed, unput_known, unread_failed, unread_known}
use Rattle.smt_blast.proofs.program.print.Goals as goal

pub returns-in_err-blasted-clause-failed : goal.returns-in_err-blasted-clause-failed
returns-in_err-blasted-clause-failed g c =
    let source_failed = Rose (g.R.Source.faults c.args.source.now) (g.R.Source.faults c.blast_job.new.source) in
    let sink_failed = Rose (g.W.Sink.faults c.args.out.now) (g.W.Sink.faults c.args.out.now) in
    by_refusal (Fails source_failed sink_failed) c.from_residual.result c.in_err-blasted.field-0.0 c.from_residual.ensures.1 (unread_failed _ source_failed sink_failed c.in_err-blasted.field-0.0 c.in_err-blasted.ensures.refused)

pub returns-in_err-blasted-clause-known : goal.returns-in_err-blasted-clause-known
returns-in_err-blasted-clause-known g c =
    let before = around g.R.Source.remaining g.W.Sink.contents c.args.source.now c.args.out.now tt in
    let after = around g.R.Source.remaining g.W.Sink.contents c.blast_job.new.source c.args.out.now tt in
    by_refusal (WhyNotBlasted before after) c.from_residual.result c.in_err-blasted.field-0.0 c.from_residual.ensures.1
    (unread_known before after (Rose (g.R.Source.faults c.args.source.now) (g.R.Source.faults c.blast_job.new.source)) c.in_err-blasted.field-0.0 refl c.in_err-blasted.ensures.refused)

pub returns-clause-done : goal.returns-clause-done
returns-clause-done g c =
    let before = around g.R.Source.remaining g.W.Sink.contents c.args.source.now c.args.out.now tt in
    let after = around g.R.Source.remaining g.W.Sink.contents c.blast_job.new.source c.put_blasted.new.out tt in
    let read = c.in_ok-blasted.ensures in
    on_ok (after.held ≡ append_known before.held (blasted_text (current_terms read.blasted.job))) (ReadsAndPrints before after) c.put_blasted.result
    (λ put. record { holds = prints before.left c.in_ok-blasted.blasted read.blasted before.held after.held put; ended = read.ended }) (c.put_blasted.ensures.puts _ read.blasted.stand)

pub returns-clause-failed : goal.returns-clause-failed
returns-clause-failed g c =
    let source_failed = Rose (g.R.Source.faults c.args.source.now) (g.R.Source.faults c.blast_job.new.source) in
    let sink_failed = Rose (g.W.Sink.faults c.args.out.now) (g.W.Sink.faults c.put_blasted.new.out) in
    of_error (HasPutCause sink_failed) (Fails source_failed sink_failed) c.put_blasted.result (unput_failed source_failed sink_failed) c.put_blasted.ensures.refused

pub returns-clause-known : goal.returns-clause-known
returns-clause-known g c =
    let before = around g.R.Source.remaining g.W.Sink.contents c.args.source.now c.args.out.now tt in
    let after = around g.R.Source.remaining g.W.Sink.contents c.blast_job.new.source c.put_blasted.new.out tt in
    let sink_failed = Rose (g.W.Sink.faults c.args.out.now) (g.W.Sink.faults c.put_blasted.new.out) in
    of_error (HasPutCause sink_failed) (WhyNotBlasted before after) c.put_blasted.result
    (unput_known before after sink_failed (taken_job before.left c.in_ok-blasted.blasted c.in_ok-blasted.ensures.blasted)) c.put_blasted.ensures.refused
