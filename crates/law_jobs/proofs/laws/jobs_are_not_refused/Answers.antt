use Rattle.law_jobs.proofs.Jobs.{job_has_no_fault, job_is_short}
use Rattle.law_jobs.proofs.laws.jobs_are_not_refused.Goals as goal

pub returns : goal.returns
returns c = record { short = job_is_short; sound = job_has_no_fault }
