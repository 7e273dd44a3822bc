use Rattle.std.proofs.Common.{◌≡◌, rules}
use Rattle.law_jobs.specs.Jobs.{built_job, job_of}
use Rattle.law_jobs.specs.Outcomes.{mapped}
use Rattle.smt_job_terms.specs.declared.error.JobError.TheVariants.{Memory}
use Rattle.smt_sexpr.specs.View.{plain}
use Rattle.smt_eval.proofs.Refused.{job_refused}
use Rattle.smt_eval.proofs.input.job_in.Goals as goal

pub returns-else-is_want : goal.returns-else-is_want
returns-else-is_want c =
    job_refused c.in-Err.error (mapped (λ x. built_job x.1) (job_of (plain c.args.expression.now))) (λ (want : c.in-Err.error ≡ Memory). absurd (search rules)) c.in-Err.ensures
