use Rattle.smt_sexpr.specs.View.{plain, plain_list}
use Rattle.smt_job_terms.proofs.Reading.{passes_on}
use Rattle.smt_jobs.specs.StepView.{plain_steps}
use Rattle.smt_jobs.proofs.ExpressedJobs.{last_fault, last_stated, more_fault}
use Rattle.smt_jobs.proofs.expressed.last_from.Goals as goal

pub returns-in_err-steps : goal.returns-in_err-steps
returns-in_err-steps c ds has =
    passes_on plain_steps c.from_residual-in_err-steps.result c.in_err-steps.field-0.0 _ _ c.from_residual-in_err-steps.ensures.1 (c.in_err-steps.ensures ds has)
    (last_fault ds (plain_list c.args.items.now) (plain c.in_ok-last.last.now) (plain_list c.in_ok-last.others.now) c.in_ok-last.ensures)

pub returns-in_err-nothing_more : goal.returns-in_err-nothing_more
returns-in_err-nothing_more c ds has =
    passes_on plain_steps c.from_residual-in_err-nothing_more.result c.in_err-nothing_more.field-0.0 _ _ c.from_residual-in_err-nothing_more.ensures.1 c.in_err-nothing_more.ensures
    (more_fault ds (plain_list c.args.items.now) (plain c.in_ok-last.last.now) (plain_list c.in_ok-last.others.now) c.in_ok-last.ensures (plain_steps c.in_ok-steps.steps) (c.in_ok-steps.ensures ds has))

pub returns : goal.returns
returns c ds has =
    last_stated ds (plain_list c.args.items.now) (plain c.in_ok-last.last.now) (plain_list c.in_ok-last.others.now) c.in_ok-last.ensures (plain_steps c.in_ok-steps.steps) (c.in_ok-steps.ensures ds has) c.in_ok-nothing_more.ensures
