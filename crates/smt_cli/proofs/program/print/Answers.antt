use Rattle.std.proofs.Common.{refl}
use Rattle.law_jobs.specs.Steps.{asserted}
use Rattle.law_terms.specs.Faults.{first_fault}
use Rattle.smt_jobs.specs.Numbered.{numbered_job}
use Rattle.smt_jobs.specs.StepView.{plain_section}
use Rattle.smt_script.specs.Sink.{Rose}
use Rattle.smt_runs.specs.Jobs.{HasPrintCause}
use Rattle.smt_runs.specs.Pieces.{PutsSteps}
use Rattle.smt_runs.specs.Runs.{Fails, Reads}
use Rattle.smt_runs.proofs.Printing.{unprinted_failed}
use Rattle.smt_runs.proofs.Reading.{told_built, unread_failed}
use Rattle.smt_runs.proofs.Told.{of_error, on_ok}
use Rattle.smt_runs.proofs.Verdicts.{by_refusal}
use Rattle.smt_cli.specs.Causes.{WhyNotPrinted}
use Rattle.smt_cli.specs.Run.{Prints}
use Rattle.smt_cli.proofs.Running.{prints, unprinted_known, unread_known}
use Rattle.smt_cli.proofs.program.print.Goals as goal

pub returns-in_err-job-clause-failed : goal.returns-in_err-job-clause-failed
returns-in_err-job-clause-failed g c =
    let source_failed = Rose (g.R.Source.faults c.args.source.now) (g.R.Source.faults c.read_source.new.source) in
    let sink_failed = Rose (g.W.Sink.faults c.args.out.now) (g.W.Sink.faults c.args.out.now) in
    by_refusal (Fails source_failed sink_failed) c.from_residual.result c.in_err-job.field-0.0 c.from_residual.ensures.1 (unread_failed _ source_failed sink_failed c.in_err-job.field-0.0 c.in_err-job.ensures.refused)

pub returns-in_err-job-clause-known : goal.returns-in_err-job-clause-known
returns-in_err-job-clause-known g c =
    let left = g.R.Source.remaining c.args.source.now in
    let held = g.W.Sink.contents c.args.out.now in
    by_refusal (WhyNotPrinted left held held) c.from_residual.result c.in_err-job.field-0.0 c.from_residual.ensures.1 (unread_known left held held _ c.in_err-job.field-0.0 refl c.in_err-job.ensures.refused)

pub returns-clause-done : goal.returns-clause-done
returns-clause-done g c =
    let job = numbered_job c.in_ok-job.job in
    let left = g.R.Source.remaining c.args.source.now in
    let old = g.W.Sink.contents c.args.out.now in
    let new = g.W.Sink.contents c.put_script.new.out in
    on_ok (PutsSteps job.enums old new job.steps) (Reads (Prints old new) left (g.R.Source.remaining c.read_source.new.source)) c.put_script.result
    (λ put. record { holds = prints left (plain_section c.in_ok-job.job.section) job old new (told_built left c.in_ok-job.job c.in_ok-job.ensures.job) put; ended = c.in_ok-job.ensures.ended }) c.put_script.ensures.puts

pub returns-clause-failed : goal.returns-clause-failed
returns-clause-failed g c =
    let job = numbered_job c.in_ok-job.job in
    let fault = first_fault job.enums (asserted job.steps) in
    let source_failed = Rose (g.R.Source.faults c.args.source.now) (g.R.Source.faults c.read_source.new.source) in
    let sink_failed = Rose (g.W.Sink.faults c.args.out.now) (g.W.Sink.faults c.put_script.new.out) in
    of_error (HasPrintCause fault sink_failed) (Fails source_failed sink_failed) c.put_script.result (unprinted_failed fault source_failed sink_failed) c.put_script.ensures.refused

pub returns-clause-known : goal.returns-clause-known
returns-clause-known g c =
    let job = numbered_job c.in_ok-job.job in
    let left = g.R.Source.remaining c.args.source.now in
    let old = g.W.Sink.contents c.args.out.now in
    let new = g.W.Sink.contents c.put_script.new.out in
    let sink_failed = Rose (g.W.Sink.faults c.args.out.now) (g.W.Sink.faults c.put_script.new.out) in
    of_error (HasPrintCause (first_fault job.enums (asserted job.steps)) sink_failed) (WhyNotPrinted left old new) c.put_script.result
    (λ r h. unprinted_known left old new sink_failed (plain_section c.in_ok-job.job.section) job r (told_built left c.in_ok-job.job c.in_ok-job.ensures.job) h) c.put_script.ensures.refused
