use Rattle.std.proofs.Common.{refl, subst}
use Rattle.law_texts.specs.SharedTexts.{texts}
use Rattle.law_jobs.specs.Steps.{checked_steps}
use Rattle.smt_jobs.specs.Numbered.{numbered_job}
use Rattle.smt_jobs.specs.StepView.{plain_section}
use Rattle.smt_script.specs.Sink.{Rose}
use Rattle.smt_solve.specs.Starter.{Command as SolverCall, command_of as solver_call}
use Rattle.smt_runs.specs.Asking.{AsksSolver, WhyNotAsked}
use Rattle.smt_runs.specs.Runs.{Fails, Reads, around}
use Rattle.smt_runs.proofs.Reading.{told_built, unread_failed}
use Rattle.smt_runs.proofs.Starting.{unasked_failed}
use Rattle.smt_runs.proofs.Told.{of_error, on_ok}
use Rattle.smt_runs.proofs.Verdicts.{by_refusal}
use Rattle.smt_cli.specs.Causes.{WhyNotChecked}
use Rattle.smt_cli.specs.Run.{Checks}
use Rattle.smt_cli.specs.Words.{solver_named}
use Rattle.smt_cli.proofs.Believing.{checked}
use Rattle.smt_cli.proofs.Stopped.{stopped_early, unasked, unread}
use Rattle.smt_cli.proofs.program.check.Goals as goal

pub returns-in_err-job-clause-failed : goal.returns-in_err-job-clause-failed
returns-in_err-job-clause-failed g c =
    let source_failed = Rose (g.R.Source.faults c.args.source.now) (g.R.Source.faults c.read_source.new.source) in
    let sink_failed = Rose (g.W.Sink.faults c.args.out.now) (g.W.Sink.faults c.args.out.now) in
    by_refusal (Fails source_failed sink_failed) c.from_residual.result c.in_err-job.field-0.0 c.from_residual.ensures.1 (unread_failed _ source_failed sink_failed c.in_err-job.field-0.0 c.in_err-job.ensures.refused)

pub returns-in_err-job-clause-known : goal.returns-in_err-job-clause-known
returns-in_err-job-clause-known g c =
    let state = g.P.L.Link.state in
    let allows = g.P.Starter.allows c.args.starter.now in
    let call = solver_named (texts c.args.words.now) in
    let starter = g.P.Starter.state c.args.starter.now in
    let before = around g.R.Source.remaining g.W.Sink.contents c.args.source.now c.args.out.now starter in
    let after = around g.R.Source.remaining g.W.Sink.contents c.read_source.new.source c.args.out.now starter in
    by_refusal (WhyNotChecked state allows call before after) c.from_residual.result c.in_err-job.field-0.0 c.from_residual.ensures.1
    (unread state allows call before after (Rose (g.R.Source.faults c.args.source.now) (g.R.Source.faults c.read_source.new.source)) refl refl c.in_err-job.field-0.0 c.in_err-job.ensures.refused)

pub returns-in_default-clause-known : goal.returns-in_default-clause-known
returns-in_default-clause-known g c =
    let starter = g.P.Starter.state c.args.starter.now in
    let before = around g.R.Source.remaining g.W.Sink.contents c.args.source.now c.args.out.now starter in
    let after = around g.R.Source.remaining g.W.Sink.contents c.read_source.new.source c.args.out.now starter in
    stopped_early g.P.L.Link.state (g.P.Starter.allows c.args.starter.now) (solver_named (texts c.args.words.now)) before after refl refl

pub returns-clause-done : goal.returns-clause-done
returns-clause-done g c =
    let state = g.P.L.Link.state in
    let allows = g.P.Starter.allows c.args.starter.now in
    let call = solver_named (texts c.args.words.now) in
    let before = around g.R.Source.remaining g.W.Sink.contents c.args.source.now c.args.out.now (g.P.Starter.state c.args.starter.now) in
    let after = around g.R.Source.remaining g.W.Sink.contents c.read_source.new.source c.put_verdicts.new.out (g.P.Starter.state c.put_verdicts.new.starter) in
    let job = numbered_job c.in_ok-job.job in
    let section = plain_section c.in_ok-job.job.section in
    on_ok (AsksSolver state allows before.beside after.beside (solver_call c.in-Ok.solver) job.enums (checked_steps section job.steps) before.held after.held) (Reads (Checks state allows call before after) before.left after.left) c.put_verdicts.result
    (λ asked.
    let asks = subst (λ (k : SolverCall). AsksSolver state allows before.beside after.beside k job.enums (checked_steps section job.steps) before.held after.held) c.in-Ok.ensures.named asked in
    record { holds = checked state allows call before after before.left section job (told_built before.left c.in_ok-job.job c.in_ok-job.ensures.job) asks; ended = c.in_ok-job.ensures.ended }) c.put_verdicts.ensures.asked

pub returns-clause-failed : goal.returns-clause-failed
returns-clause-failed g c =
    let state = g.P.L.Link.state in
    let allows = g.P.Starter.allows c.args.starter.now in
    let old = g.P.Starter.state c.args.starter.now in
    let new = g.P.Starter.state c.put_verdicts.new.starter in
    let job = numbered_job c.in_ok-job.job in
    let steps = checked_steps (plain_section c.in_ok-job.job.section) job.steps in
    let held = g.W.Sink.contents c.args.out.now in
    let now = g.W.Sink.contents c.put_verdicts.new.out in
    let source_failed = Rose (g.R.Source.faults c.args.source.now) (g.R.Source.faults c.read_source.new.source) in
    let sink_failed = Rose (g.W.Sink.faults c.args.out.now) (g.W.Sink.faults c.put_verdicts.new.out) in
    of_error (WhyNotAsked state allows old new (solver_call c.in-Ok.solver) job.enums steps held now sink_failed) (Fails source_failed sink_failed) c.put_verdicts.result
    (unasked_failed state allows old new (solver_call c.in-Ok.solver) job.enums steps held now sink_failed source_failed) c.put_verdicts.ensures.refused

pub returns-clause-known : goal.returns-clause-known
returns-clause-known g c =
    let state = g.P.L.Link.state in
    let allows = g.P.Starter.allows c.args.starter.now in
    let call = solver_named (texts c.args.words.now) in
    let before = around g.R.Source.remaining g.W.Sink.contents c.args.source.now c.args.out.now (g.P.Starter.state c.args.starter.now) in
    let after = around g.R.Source.remaining g.W.Sink.contents c.read_source.new.source c.put_verdicts.new.out (g.P.Starter.state c.put_verdicts.new.starter) in
    let job = numbered_job c.in_ok-job.job in
    let section = plain_section c.in_ok-job.job.section in
    let sink_failed = Rose (g.W.Sink.faults c.args.out.now) (g.W.Sink.faults c.put_verdicts.new.out) in
    of_error (WhyNotAsked state allows before.beside after.beside (solver_call c.in-Ok.solver) job.enums (checked_steps section job.steps) before.held after.held sink_failed) (WhyNotChecked state allows call before after) c.put_verdicts.result
    (λ r h. unasked state allows call before after sink_failed section job r (told_built before.left c.in_ok-job.job c.in_ok-job.ensures.job)
    (subst (λ (k : SolverCall). WhyNotAsked state allows before.beside after.beside k job.enums (checked_steps section job.steps) before.held after.held sink_failed r) c.in-Ok.ensures.named h)) c.put_verdicts.ensures.refused
