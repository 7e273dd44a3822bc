use Rattle.law_jobs.proofs.Jobs.{job_is_balanced}
use Rattle.law_jobs.proofs.laws.jobs_are_balanced.Goals as goal

pub returns : goal.returns
returns c = job_is_balanced
