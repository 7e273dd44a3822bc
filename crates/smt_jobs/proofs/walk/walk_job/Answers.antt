use Rattle.std.proofs.Common.{◌≡◌, ◌≤◌, Err, length, rules}
use Rattle.std.specs.Prelude.{IsErrOf}
use Rattle.law_jobs.specs.Jobs.{greatest_length}
use Rattle.smt_job_terms.specs.declared.declaration.Declared.{Declared}
use Rattle.smt_job_terms.specs.declared.error.JobError.{JobError}
use Rattle.smt_job_terms.specs.declared.error.JobError.TheVariants.{TooLarge}
use Rattle.smt_jobs.specs.declared.steps.Section.{Section}
use Rattle.smt_jobs.proofs.Walking.{first_refused, job_taken, too_large}
use Rattle.smt_jobs.proofs.walk.walk_job.Goals as goal

pub returns-in-Ok-clause-job : goal.returns-in-Ok-clause-job
returns-in-Ok-clause-job g c =
    let short : length c.args.bytes.now ≤ greatest_length = search rules in
    job_taken c.args.bytes.now (g.T.StepSink.taken c.args.out.now) (g.T.StepSink.taken c.walk_sections.new.out) c.in-Ok.walked short c.in-Ok.ensures.read c.in-Ok.ensures.stated

pub returns-in-Err-clause-refused : goal.returns-in-Err-clause-refused
returns-in-Err-clause-refused g c =
    let short : length c.args.bytes.now ≤ greatest_length = search rules in
    first_refused c.args.bytes.now (g.T.StepSink.taken c.args.out.now) (g.T.StepSink.taken c.walk_sections.new.out) c.in-Err.fault c.first_fault.result short c.in-Err.ensures.stated c.first_fault.ensures

same_error : (a b : JobError) → IsErrOf {T = Declared × Section} (Err a) b → a ≡ b
same_error a b h = cc

pub returns-in-Err-clause-too_large : goal.returns-in-Err-clause-too_large
returns-in-Err-clause-too_large g c = (
  λ error. too_large c.args.bytes.now c.first_fault.result (returns-in-Err-clause-refused g c) (same_error c.first_fault.result TooLarge error),
  λ long. absurd (search rules),
)
