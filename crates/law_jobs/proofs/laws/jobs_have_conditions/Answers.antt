use Rattle.law_jobs.proofs.Jobs.{jobs_have_conditions}
use Rattle.law_jobs.proofs.laws.jobs_have_conditions.Goals as goal

pub returns : goal.returns
returns c = jobs_have_conditions
