use Rattle.smt_jobs.specs.JobView.{plain_job}
use Rattle.smt_sexpr.specs.View.{plain}
use Rattle.smt_eval.specs.AssignmentView.{plain_assignment}
use Rattle.smt_eval.specs.WrittenView.{plain_written}
use Rattle.smt_eval.proofs.InputReading.{passes_on}
use Rattle.smt_eval.proofs.InputWhole.{assignment_fault, job_fault, missing_fault, whole_input}
use Rattle.smt_eval.proofs.input.input_in.Goals as goal

pub returns-in_err-job : goal.returns-in_err-job
returns-in_err-job c =
    passes_on _ c.from_residual-in_err-job.result c.in_err-job.field-0.0 _ _ c.from_residual-in_err-job.ensures.1 c.in_err-job.ensures (job_fault (plain c.args.expression.now) (plain_written c.in_ok-written.written) c.in_ok-written.ensures)

pub returns-in_err-given : goal.returns-in_err-given
returns-in_err-given c =
    passes_on _ c.from_residual-in_err-given.result c.in_err-given.field-0.0 _ _ c.from_residual-in_err-given.ensures.1 c.in_err-given.ensures
    (assignment_fault (plain c.args.expression.now) (plain_written c.in_ok-written.written) c.in_ok-written.ensures (plain_job c.in_ok-job.job) c.in_ok-job.ensures)

pub returns-in_err-refuse_lacking : goal.returns-in_err-refuse_lacking
returns-in_err-refuse_lacking c =
    passes_on _ c.from_residual-in_err-refuse_lacking.result c.in_err-refuse_lacking.field-0.0 _ _ c.from_residual-in_err-refuse_lacking.ensures.1 c.in_err-refuse_lacking.ensures
    (missing_fault (plain c.args.expression.now) (plain_written c.in_ok-written.written) c.in_ok-written.ensures (plain_job c.in_ok-job.job) c.in_ok-job.ensures (plain_assignment c.in_ok-given.given) c.in_ok-given.ensures)

pub returns : goal.returns
returns c =
    whole_input (plain c.args.expression.now) (plain_written c.in_ok-written.written) c.in_ok-written.ensures (plain_job c.in_ok-job.job) c.in_ok-job.ensures (plain_assignment c.in_ok-given.given) c.in_ok-given.ensures c.in_ok-refuse_lacking.ensures
