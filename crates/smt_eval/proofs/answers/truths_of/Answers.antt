use Rattle.std.proofs.Common.{◌∙◌, ap, arith, map}
use Rattle.std.proofs.lemmas.List.{take_all}
use Rattle.law_jobs.specs.Steps.{current}
use Rattle.smt_eval.specs.AssignmentView.{plain_assignment}
use Rattle.smt_jobs.specs.JobView.{plain_job}
use Rattle.smt_term.specs.View.{plain_term}
use Rattle.smt_eval.specs.Answers.{truths_in}
use Rattle.smt_eval.proofs.Truths.{all_are_truths, one_more_truth}
use Rattle.smt_eval.proofs.answers.truths_of.Goals as goal

pub loop-term-preserved : goal.loop-term-preserved
loop-term-preserved c =
    let a = plain_assignment c.args.input.now.given in
    let job = plain_job c.args.input.now.job in
    let all = c.items-term-items.result.now in
    let known = all_are_truths job.enums a c.requires.evaluable.sound (current job.steps) (map plain_term all) (c.items-term-items.ensures.plain ∙ c.in-Ok.ensures.current) c.requires.evaluable.covered c.requires.evaluable.boolean c.requires.evaluable.formed in
    one_more_truth a all c.loop-term.term-index c.term-item.result c.in_ok-value.value c.loop-term.truths.items c.push.new.self.items c.truth_in.result known c.loop-term-test.true c.term-item.is c.loop-term.invariant c.in_ok-value.ensures.evaluated c.truth_in.ensures c.in_ok-push.ensures.items

pub returns-clause-truths : goal.returns-clause-truths
returns-clause-truths c =
    let a = plain_assignment c.args.input.now.given in
    c.loop-term.invariant ∙ ap (λ ts. truths_in a (map plain_term ts)) (take_all c.loop-term.term-index c.items-term-items.result.now (omega (arith, c.loop-term-test.false))) ∙ ap (truths_in a) (c.items-term-items.ensures.plain ∙ c.in-Ok.ensures.current)
