use Rattle.std.proofs.Common.{◌≤◌, arith}
use Rattle.smt_jobs.specs.StepView.{plain_step, plain_steps}
use Rattle.smt_job_terms.proofs.Reading.{passes_on}
use Rattle.smt_jobs.proofs.ExpressedJobs.{all_steps, level_fault, one_step_more, step_fault}
use Rattle.smt_jobs.proofs.expressed.steps_from.Goals as goal

pub returns-in_err-step : goal.returns-in_err-step
returns-in_err-step c ds has =
    passes_on plain_steps c.from_residual.result c.in_err-step.field-0.0 _ _ c.from_residual.ensures.1 (c.in_err-step.ensures ds has)
    (step_fault ds _ c.loop-item.levels _ c.loop-item.item-index c.item-item.result (c.loop-item.invariant.stated ds has) c.loop-item-test.true c.item-item.is)

pub returns-in_err-levels : goal.returns-in_err-levels
returns-in_err-levels c ds has =
    passes_on plain_steps c.from_residual-in_err-levels.result c.in_err-levels.field-0.0 _ _ c.from_residual-in_err-levels.ensures.1 c.in_err-levels.ensures.stated
    (level_fault ds _ c.loop-item.levels _ c.loop-item.item-index c.item-item.result (c.loop-item.invariant.stated ds has) c.loop-item-test.true c.item-item.is (plain_step c.in_ok-step.step) (c.in_ok-step.ensures ds has))

pub loop-item-preserved : goal.loop-item-preserved
loop-item-preserved c = (
    let before : c.loop-item.levels ≤ c.loop-item.item-index = c.loop-item.invariant.few in
    let most = c.in_ok-levels.ensures.most in
    record {
      few = omega arith;
      stated = λ ds has. one_step_more ds _ c.loop-item.levels _ c.loop-item.item-index c.item-item.result (c.loop-item.invariant.stated ds has) c.loop-item-test.true c.item-item.is (plain_step c.in_ok-step.step) (c.in_ok-step.ensures ds has) c.in_ok-levels.levels _ c.in_ok-levels.ensures.stated c.in_ok-push.ensures.ok;
    })

pub returns : goal.returns
returns c ds has = all_steps ds _ c.loop-item.levels _ c.loop-item.item-index (omega (arith, c.loop-item-test.false)) (c.loop-item.invariant.stated ds has)
