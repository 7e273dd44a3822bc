use Rattle.law_texts.specs.SharedTexts.{texts}
use Rattle.smt_script.specs.Sink.{Rose}
use Rattle.smt_runs.specs.Runs.{Does, Knows, around, requested, seen}
use Rattle.smt_runs.proofs.Ending.{complete_by, does_seen, knows_seen, reports_too}
use Rattle.smt_review.specs.Causes.{WhyNotDone}
use Rattle.smt_review.specs.Run.{IsComplete, IsDone}
use Rattle.smt_runs.specs.Runs.{StartFailed}
use Rattle.smt_review.specs.Words.{commanded, solver_named, usage_line}
use Rattle.smt_review.proofs.Statuses.{done_complete, kept_allows, misused_complete, refused_complete}
use Rattle.smt_review.proofs.program.review_run.Goals as goal

pub returns-clause-done : goal.returns-clause-done
returns-clause-done g c zero =
    let call = solver_named (texts c.args.words.now) in
    let asked = requested commanded (texts c.args.words.now) in
    let done = IsDone g.P.L.Link.state g.P.L.Link.allows (g.P.Starter.allows c.args.starter.now) call in
    let before = around g.R.Source.remaining g.W.Sink.contents c.args.source.now c.args.out.now c.args.starter.now in
    let after = around g.R.Source.remaining g.W.Sink.contents c.run_task.new.source c.run_task.new.out c.run_task.new.beside in
    does_seen g.P.Starter.state before after (λ command b a. done command (seen g.P.Starter.state b) (seen g.P.Starter.state a)) done (λ command d. d) asked (c.run_task.ensures.done zero)

pub returns-clause-report : goal.returns-clause-report
returns-clause-report g c =
    let state = g.P.L.Link.state in
    let call = solver_named (texts c.args.words.now) in
    let asked = requested commanded (texts c.args.words.now) in
    let told = g.P.Starter.state in
    let before = around g.R.Source.remaining g.W.Sink.contents c.args.source.now c.args.out.now c.args.starter.now in
    let after = around g.R.Source.remaining g.W.Sink.contents c.run_task.new.source c.run_task.new.out c.run_task.new.beside in
    let source_failed = Rose (g.R.Source.faults c.args.source.now) (g.R.Source.faults c.run_task.new.source) in
    let sink_failed = Rose (g.W.Sink.faults c.args.out.now) (g.W.Sink.faults c.run_task.new.out) in
    let done = IsDone state g.P.L.Link.allows (g.P.Starter.allows c.args.starter.now) call in
    let why = WhyNotDone state call in
    reports_too asked usage_line _ _ _ c.run_task.result source_failed sink_failed _ (Knows (seen told before) (seen told after) why asked) _ (Does (seen told before) (seen told after) done asked)
    (λ r k. knows_seen told before after (λ command b a. why command (seen told b) (seen told a)) why (λ command x h. h) asked r k)
    (λ d. does_seen told before after (λ command b a. done command (seen told b) (seen told a)) done (λ command x. x) asked d) c.run_task.ensures.report

pub returns-clause-complete : goal.returns-clause-complete
returns-clause-complete g c =
    let state = g.P.L.Link.state in
    let call = solver_named (texts c.args.words.now) in
    let asked = requested commanded (texts c.args.words.now) in
    let told = g.P.Starter.state in
    let before = around g.R.Source.remaining g.W.Sink.contents c.args.source.now c.args.out.now (told c.args.starter.now) in
    let after = around g.R.Source.remaining g.W.Sink.contents c.run_task.new.source c.run_task.new.out (told c.run_task.new.beside) in
    let source_failed = Rose (g.R.Source.faults c.args.source.now) (g.R.Source.faults c.run_task.new.source) in
    let sink_failed = Rose (g.W.Sink.faults c.args.out.now) (g.W.Sink.faults c.run_task.new.out) in
    let allowed = g.P.Starter.allows c.args.starter.now in
    complete_by (IsComplete asked before.left source_failed sink_failed (StartFailed before.beside after.beside)) asked usage_line _ _ _ source_failed sink_failed (Knows before after (WhyNotDone state call) asked) (Does before after (IsDone state g.P.L.Link.allows allowed call) asked) c.run_task.result
    (λ status d good. done_complete state call before after source_failed sink_failed g.P.L.Link.allows allowed asked status d good)
    (λ none. misused_complete state call before after source_failed sink_failed asked c.run_task.result none)
    (λ r f k. refused_complete state call before after source_failed sink_failed asked r f k)
    (returns-clause-done g c) (returns-clause-report g c)

pub returns-clause-allows : goal.returns-clause-allows
returns-clause-allows g c = kept_allows g.P.Starter.allows c.args.starter.now c.run_task.new.beside c.run_task.ensures.kept
