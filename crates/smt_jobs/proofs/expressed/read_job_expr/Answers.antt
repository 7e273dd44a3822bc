use Rattle.smt_sexpr.specs.View.{plain, plain_list}
use Rattle.smt_job_terms.specs.DeclarationView.{stated_in}
use Rattle.smt_job_terms.proofs.Reading.{passes_on}
use Rattle.smt_jobs.specs.StepView.{plain_steps}
use Rattle.smt_jobs.proofs.ExpressedJobs.{declared_fault, job_stated, steps_fault}
use Rattle.smt_jobs.proofs.expressed.read_job_expr.Goals as goal

pub returns-in_err-declared : goal.returns-in_err-declared
returns-in_err-declared c =
    passes_on _ c.from_residual-in_err-declared.result c.in_err-declared.field-0.0 _ _ c.from_residual-in_err-declared.ensures.1 c.in_err-declared.ensures.stated
    (declared_fault (plain c.args.e.now) (plain_list c.in_ok-sections.sections.now) c.in_ok-sections.ensures)

pub returns-in_err-steps : goal.returns-in_err-steps
returns-in_err-steps c =
    let ds = stated_in c.in_ok-declared.declared in
    passes_on _ c.from_residual-in_err-steps.result c.in_err-steps.field-0.0 _ _ c.from_residual-in_err-steps.ensures.1 (c.in_err-steps.ensures ds c.in_ok-declared.ensures.declares)
    (steps_fault (plain c.args.e.now) (plain_list c.in_ok-sections.sections.now) c.in_ok-sections.ensures ds _ c.in_ok-declared.ensures.stated)

pub returns : goal.returns
returns c =
    let ds = stated_in c.in_ok-declared.declared in
    job_stated (plain c.args.e.now) (plain_list c.in_ok-sections.sections.now) c.in_ok-sections.ensures ds _ c.in_ok-declared.ensures.stated (plain_steps c.in_ok-steps.steps) (c.in_ok-steps.ensures ds c.in_ok-declared.ensures.declares)
