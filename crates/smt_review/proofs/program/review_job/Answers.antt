use Rattle.std.proofs.Common.{◌≡◌, Some, ap, refl, sym, ◌∙◌, subst}
use Rattle.std.specs.Io.KnownBytes.{append_known}
use Rattle.law_terms.specs.Plain.{BoolType, PlainTerm}
use Rattle.law_terms.specs.Typing.{Typed}
use Rattle.law_texts.specs.SharedTexts.{texts}
use Rattle.smt_jobs.specs.JobView.{plain_job}
use Rattle.smt_jobs.specs.StepView.{plain_steps}
use Rattle.smt_script.specs.Sink.{Rose}
use Rattle.smt_solve.specs.Starter.{Command as SolverCall}
use Rattle.smt_term.specs.View.{plain_term}
use Rattle.smt_runs.specs.Runs.{Fails, Reads, around}
use Rattle.smt_runs.proofs.Ending.{IsUnputText, unput_is_failed, unput_known}
use Rattle.smt_runs.proofs.Reading.{unread_failed}
use Rattle.smt_runs.proofs.Told.{of_error, on_ok}
use Rattle.smt_runs.proofs.Verdicts.{by_refusal}
use Rattle.smt_review.specs.Once.{ReviewsOnce, WhyNotReviewedOnce}
use Rattle.smt_review.specs.Pairs.{pair_of}
use Rattle.smt_review.specs.Causes.{WhyNotReviewed}
use Rattle.smt_review.specs.Run.{ReviewsPair}
use Rattle.smt_review.specs.Words.{solver_named}
use Rattle.smt_review.proofs.Once.{once_failed}
use Rattle.smt_review.proofs.Pairing.{pair_boolean}
use Rattle.smt_review.proofs.Running.{other_steps, put_known, reviews_pair, stop_known, unread_known}
use Rattle.smt_review.proofs.program.review_job.Goals as goal

pub returns-in_err-job-clause-failed : goal.returns-in_err-job-clause-failed
returns-in_err-job-clause-failed g c =
    let source_failed = Rose (g.R.Source.faults c.args.source.now) (g.R.Source.faults c.read_whole.new.source) in
    let sink_failed = Rose (g.W.Sink.faults c.args.out.now) (g.W.Sink.faults c.args.out.now) in
    by_refusal (Fails source_failed sink_failed) c.from_residual.result c.in_err-job.field-0.0 c.from_residual.ensures.1 (unread_failed _ source_failed sink_failed c.in_err-job.field-0.0 c.in_err-job.ensures.refused)

pub returns-in_err-job-clause-known : goal.returns-in_err-job-clause-known
returns-in_err-job-clause-known g c =
    let state = g.P.L.Link.state in
    let call = solver_named (texts c.args.words.now) in
    let starter = g.P.Starter.state c.args.starter.now in
    let before = around g.R.Source.remaining g.W.Sink.contents c.args.source.now c.args.out.now starter in
    let after = around g.R.Source.remaining g.W.Sink.contents c.read_whole.new.source c.args.out.now starter in
    by_refusal (WhyNotReviewed state call c.args.relation before after) c.from_residual.result c.in_err-job.field-0.0 c.from_residual.ensures.1
    (unread_known state call c.args.relation before after (Rose (g.R.Source.faults c.args.source.now) (g.R.Source.faults c.read_whole.new.source)) refl refl c.in_err-job.field-0.0 c.in_err-job.ensures.refused)

pub returns-in_default-clause-known : goal.returns-in_default-clause-known
returns-in_default-clause-known g c =
    let starter = g.P.Starter.state c.args.starter.now in
    let before = around g.R.Source.remaining g.W.Sink.contents c.args.source.now c.args.out.now starter in
    let after = around g.R.Source.remaining g.W.Sink.contents c.read_whole.new.source c.args.out.now starter in
    other_steps g.P.L.Link.state (solver_named (texts c.args.words.now)) c.args.relation before after (plain_job c.in_ok-job.job) c.in_ok-job.ensures.job (c.two_terms.ensures.other c.in_default.is) refl refl

pub review_once-requires-clause-first : goal.review_once-requires-clause-first
review_once-requires-clause-first g c =
    let both = pair_boolean (plain_steps c.in_ok-job.job.steps) (plain_term c.in-Some.a.now) (plain_term c.in-Some.b.now) c.in-Some.ensures.two c.in_ok-job.ensures.boolean in
    subst (λ (x : PlainTerm). Typed x BoolType) (sym c.in-Ok-share.ensures) both.0

pub review_once-requires-clause-second : goal.review_once-requires-clause-second
review_once-requires-clause-second g c =
    let both = pair_boolean (plain_steps c.in_ok-job.job.steps) (plain_term c.in-Some.a.now) (plain_term c.in-Some.b.now) c.in-Some.ensures.two c.in_ok-job.ensures.boolean in
    subst (λ (x : PlainTerm). Typed x BoolType) (sym c.in-Ok-share-2.ensures) both.1

pub returns-in_err-finding-clause-failed : goal.returns-in_err-finding-clause-failed
returns-in_err-finding-clause-failed g c =
    let source_failed = Rose (g.R.Source.faults c.args.source.now) (g.R.Source.faults c.read_whole.new.source) in
    let sink_failed = Rose (g.W.Sink.faults c.args.out.now) (g.W.Sink.faults c.args.out.now) in
    by_refusal (Fails source_failed sink_failed) c.from_residual-in_err-finding.result c.in_err-finding.field-0.0 c.from_residual-in_err-finding.ensures.1
    (once_failed g.P.L.Link.state _ _ _ _ c.args.relation _ _ source_failed sink_failed c.in_err-finding.field-0.0 c.in_err-finding.ensures.refused)

pub returns-in_err-finding-clause-known : goal.returns-in_err-finding-clause-known
returns-in_err-finding-clause-known g c =
    let state = g.P.L.Link.state in
    let call = solver_named (texts c.args.words.now) in
    let before = around g.R.Source.remaining g.W.Sink.contents c.args.source.now c.args.out.now (g.P.Starter.state c.args.starter.now) in
    let after = around g.R.Source.remaining g.W.Sink.contents c.read_whole.new.source c.args.out.now (g.P.Starter.state c.review_once.new.starter) in
    let job = plain_job c.in_ok-job.job in
    let t = plain_term c.in-Ok-share.a in
    let u = plain_term c.in-Ok-share-2.b in
    let error = c.in_err-finding.field-0.0 in
    let two : pair_of job.steps ≡ Some (t, u) = c.in-Some.ensures.two ∙ ap (λ (x : PlainTerm). Some (x, plain_term c.in-Some.b.now)) (sym c.in-Ok-share.ensures) ∙ ap (λ (y : PlainTerm). Some (t, y)) (sym c.in-Ok-share-2.ensures) in
    let why = subst (λ (k : SolverCall). WhyNotReviewedOnce state before.beside after.beside k job.enums c.args.relation t u error) c.in-Ok.ensures.named c.in_err-finding.ensures.refused in
    by_refusal (WhyNotReviewed state call c.args.relation before after) c.from_residual-in_err-finding.result error c.from_residual-in_err-finding.ensures.1
    (stop_known state call c.args.relation before after job c.in_ok-job.ensures.job t u two refl error why)

pub returns-clause-done : goal.returns-clause-done
returns-clause-done g c =
    let state = g.P.L.Link.state in
    let allows = g.P.L.Link.allows in
    let allowed = g.P.Starter.allows c.args.starter.now in
    let call = solver_named (texts c.args.words.now) in
    let before = around g.R.Source.remaining g.W.Sink.contents c.args.source.now c.args.out.now (g.P.Starter.state c.args.starter.now) in
    let after = around g.R.Source.remaining g.W.Sink.contents c.read_whole.new.source c.put_text.new.out (g.P.Starter.state c.review_once.new.starter) in
    let job = plain_job c.in_ok-job.job in
    let t = plain_term c.in-Ok-share.a in
    let u = plain_term c.in-Ok-share-2.b in
    let finding = c.in_ok-finding.finding in
    let two : pair_of job.steps ≡ Some (t, u) = c.in-Some.ensures.two ∙ ap (λ (x : PlainTerm). Some (x, plain_term c.in-Some.b.now)) (sym c.in-Ok-share.ensures) ∙ ap (λ (y : PlainTerm). Some (t, y)) (sym c.in-Ok-share-2.ensures) in
    let once = subst (λ (k : SolverCall). ReviewsOnce state allows allowed before.beside after.beside k job.enums c.args.relation t u finding) c.in-Ok.ensures.named c.in_ok-finding.ensures.reviewed in
    on_ok (after.held ≡ append_known before.held c.line_of.result.now) (Reads (ReviewsPair state allows allowed call c.args.relation before after) before.left after.left) c.put_text.result
    (λ put.
    record {
      holds = reviews_pair state call c.args.relation before after job c.in_ok-job.ensures.job t u two allows allowed finding once (put ∙ ap (append_known before.held) c.line_of.ensures);
      ended = c.in_ok-job.ensures.ended;
    }) c.put_text.ensures.done

pub returns-clause-failed : goal.returns-clause-failed
returns-clause-failed g c =
    let source_failed = Rose (g.R.Source.faults c.args.source.now) (g.R.Source.faults c.read_whole.new.source) in
    let sink_failed = Rose (g.W.Sink.faults c.args.out.now) (g.W.Sink.faults c.put_text.new.out) in
    unput_is_failed source_failed sink_failed c.put_text.result c.put_text.ensures.refused

pub returns-clause-known : goal.returns-clause-known
returns-clause-known g c =
    let state = g.P.L.Link.state in
    let call = solver_named (texts c.args.words.now) in
    let before = around g.R.Source.remaining g.W.Sink.contents c.args.source.now c.args.out.now (g.P.Starter.state c.args.starter.now) in
    let after = around g.R.Source.remaining g.W.Sink.contents c.read_whole.new.source c.put_text.new.out (g.P.Starter.state c.review_once.new.starter) in
    let job = plain_job c.in_ok-job.job in
    let t = plain_term c.in-Ok-share.a in
    let u = plain_term c.in-Ok-share-2.b in
    let failed = Rose (g.W.Sink.faults c.args.out.now) (g.W.Sink.faults c.put_text.new.out) in
    let two : pair_of job.steps ≡ Some (t, u) = c.in-Some.ensures.two ∙ ap (λ (x : PlainTerm). Some (x, plain_term c.in-Some.b.now)) (sym c.in-Ok-share.ensures) ∙ ap (λ (y : PlainTerm). Some (t, y)) (sym c.in-Ok-share-2.ensures) in
    of_error (IsUnputText failed) (WhyNotReviewed state call c.args.relation before after) c.put_text.result
    (λ why h. put_known state call c.args.relation before after job c.in_ok-job.ensures.job t u two why (unput_known failed why h)) c.put_text.ensures.refused
