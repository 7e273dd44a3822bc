-- What a job of the program says.
use Rattle.smt_term.specs.Enums.{enums_of}
use Rattle.law_jobs.specs.Jobs.{PlainJob}
use Rattle.smt_job_terms.specs.DeclarationView.{declarations, functions}
use Rattle.smt_jobs.specs.StepView.{plain_steps}
use Rattle.smt_jobs.specs.declared.job.Job.{Job}

-- a job of the program: its enum types, its declarations in order, and its steps
abbrev pub plain_job : Job → PlainJob
plain_job job =
    record { enums = enums_of job.enums; variables = declarations job.vars; functions = functions job.funs; steps = plain_steps job.steps }
