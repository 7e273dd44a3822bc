use Rattle.law_texts.specs.SharedTexts.{texts}
use Rattle.smt_script.specs.Sink.{Rose}
use Rattle.smt_runs.specs.Runs.{Does, Knows, around, requested}
use Rattle.smt_runs.proofs.Ending.{complete_by}
use Rattle.smt_eval.specs.Causes.{WhyNotEvaluated}
use Rattle.smt_eval.specs.Run.{IsComplete, ReadsAndEvaluates}
use Rattle.smt_eval.specs.Words.{commanded, usage_line}
use Rattle.smt_eval.proofs.Statuses.{done_complete, misused_complete, refused_complete}
use Rattle.smt_eval.proofs.program.eval_run.Goals as goal

pub returns-clause-complete : goal.returns-clause-complete
returns-clause-complete g c =
    let words = texts c.args.words.now in
    let asked = requested commanded words in
    let before = around g.R.Source.remaining g.W.Sink.contents c.args.source.now c.args.out.now tt in
    let after = around g.R.Source.remaining g.W.Sink.contents c.run_task.new.source c.run_task.new.out tt in
    let source_failed = Rose (g.R.Source.faults c.args.source.now) (g.R.Source.faults c.run_task.new.source) in
    let sink_failed = Rose (g.W.Sink.faults c.args.out.now) (g.W.Sink.faults c.run_task.new.out) in
    complete_by (IsComplete asked before.left source_failed sink_failed) asked usage_line _ _ _ source_failed sink_failed (Knows before after (λ _. WhyNotEvaluated) asked) (Does before after (λ _. ReadsAndEvaluates) asked) c.run_task.result
    (λ n done good. done_complete before after source_failed sink_failed n asked good done) (λ none. misused_complete before after source_failed sink_failed c.run_task.result asked none) (λ r f k. refused_complete before after source_failed sink_failed asked r f k)
    c.run_task.ensures.done c.run_task.ensures.report
