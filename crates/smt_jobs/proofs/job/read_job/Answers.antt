use Rattle.smt_job_terms.specs.DeclarationView.{stated_in}
use Rattle.smt_jobs.specs.StepView.{plain_section}
use Rattle.smt_jobs.proofs.Walking.{built_from}
use Rattle.smt_jobs.proofs.job.read_job.Goals as goal

pub returns-clause-job : goal.returns-clause-job
returns-clause-job c = (
  plain_section c.in_ok-declared.field-0-1,
  built_from c.args.bytes.now (stated_in c.in_ok-declared.declared) (plain_section c.in_ok-declared.field-0-1) _ _ c.in_ok-declared.ensures.job c.new.ensures,
)
