use Rattle.smt_runs.proofs.Meaning.{jobs_are_writable, writable_steps_mean}
use Rattle.smt_runs.proofs.laws.scripts_mean_their_jobs.Goals as goal

pub returns : goal.returns
returns c = record { steps = writable_steps_mean; jobs = jobs_are_writable }
