use Rattle.law_texts.specs.SharedTexts.{texts}
use Rattle.smt_script.specs.Sink.{Rose}
use Rattle.smt_runs.specs.Runs.{Does, Knows, StartFailed, around, requested, seen}
use Rattle.smt_runs.proofs.Ending.{complete_by, does_seen, knows_seen}
use Rattle.smt_cli.specs.Causes.{WhyNotDone}
use Rattle.smt_cli.specs.Run.{IsComplete, IsDone}
use Rattle.smt_cli.specs.Words.{commanded, generation_named, solver_named, usage_line}
use Rattle.smt_cli.specs.declared.command.Command.{Command}
use Rattle.smt_cli.proofs.Statuses.{done_complete, misused_complete, refused_complete}
use Rattle.smt_cli.proofs.program.run.Goals as goal

pub returns-clause-complete : goal.returns-clause-complete
returns-clause-complete g c =
    let words = texts c.args.words.now in
    let asked = requested commanded words in
    let state = g.P.L.Link.state in
    let tells = g.P.Starter.state in
    let allows = g.P.Starter.allows c.args.starter.now in
    let call = solver_named words in
    let first = around g.R.Source.remaining g.W.Sink.contents c.args.source.now c.args.out.now c.args.starter.now in
    let last = around g.R.Source.remaining g.W.Sink.contents c.run_task.new.source c.run_task.new.out c.run_task.new.beside in
    let before = seen tells first in
    let after = seen tells last in
    let source_failed = Rose (g.R.Source.faults c.args.source.now) (g.R.Source.faults c.run_task.new.source) in
    let sink_failed = Rose (g.W.Sink.faults c.args.out.now) (g.W.Sink.faults c.run_task.new.out) in
    let start_failed = StartFailed before.beside after.beside in
    complete_by (IsComplete asked before.left source_failed sink_failed start_failed) asked usage_line _ _ _ source_failed sink_failed (Knows first last (λ (command : Command) b a. WhyNotDone state (g.P.Starter.allows b.beside) call (seen tells b) (seen tells a) command) asked) (Does first last (λ (command : Command) b a. IsDone state (g.P.Starter.allows b.beside) call (seen tells b) (seen tells a) (generation_named words) command) asked) c.run_task.result
    (λ n done good. done_complete state allows call before after source_failed sink_failed (generation_named words) asked n (does_seen tells first last (λ (command : Command) b a. IsDone state (g.P.Starter.allows b.beside) call (seen tells b) (seen tells a) (generation_named words) command) (λ command b a. IsDone state allows call b a (generation_named words) command) (λ command d. d) asked done) good)
    (λ none. misused_complete state allows call before after source_failed sink_failed asked c.run_task.result none)
    (λ r f k. refused_complete state allows call before after source_failed sink_failed asked r f (knows_seen tells first last (λ (command : Command) b a. WhyNotDone state (g.P.Starter.allows b.beside) call (seen tells b) (seen tells a) command) (λ command b a. WhyNotDone state allows call b a command) (λ command x h. h) asked r k))
    c.run_task.ensures.done c.run_task.ensures.report
