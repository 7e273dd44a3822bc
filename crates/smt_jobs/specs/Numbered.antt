-- What a job says whose terms are numbered nodes.
use Rattle.std.specs.Prelude.{List}
use Rattle.law_terms.specs.Plain.{PlainTerm}
use Rattle.smt_term.specs.Enums.{enums_of}
use Rattle.law_jobs.specs.Jobs.{PlainJob}
use Rattle.law_jobs.specs.Steps.{PlainStep}
use Rattle.smt_job_terms.specs.DeclarationView.{declarations, functions}
use Rattle.smt_jobs.specs.Numbers.{steps_by, terms_of}
use Rattle.smt_jobs.specs.declared.numbered.NumberedJob.{NumberedJob}
use Rattle.smt_jobs.specs.declared.numbered.NumberedSteps.{NumberedSteps}

-- the steps that are complete, with the terms for which their numbers stand, in order
abbrev pub numbered_steps : NumberedSteps → List PlainStep
numbered_steps steps = steps_by steps.nodes steps.steps.items

-- the terms of the assertion that is not yet ended, in order
abbrev pub terms_begun : NumberedSteps → List PlainTerm
terms_begun steps = terms_of steps.nodes steps.begun.items

-- the job that numbered nodes say, with these steps
abbrev pub numbered_job : NumberedJob → PlainJob
numbered_job job =
    record
    { enums = enums_of job.enums; variables = declarations job.vars; functions = functions job.funs; steps = numbered_steps job.steps }
