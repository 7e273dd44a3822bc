use Rattle.law_jobs.proofs.Jobs.{job_enums_in_order}
use Rattle.law_jobs.proofs.laws.jobs_have_enums_in_order.Goals as goal

pub returns : goal.returns
returns c = job_enums_in_order
