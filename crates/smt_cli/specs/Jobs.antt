-- The job of a seed.
use Rattle.std.specs.Prelude.{ℕ, List, [], ◌∷◌}
use Rattle.law_terms.specs.Plain.{PlainTerm, PlainType}
use Rattle.law_jobs.specs.Jobs.{PlainJob}
use Rattle.law_jobs.specs.Steps.{AssertStep}
use Rattle.smt_cli.specs.Generated.{generated_terms, generated_variables}

-- the job that asserts these terms over these variables, without enum types and functions
abbrev pub job_of_terms : List (List ℕ × PlainType) → List PlainTerm → PlainJob
job_of_terms variables ts = record { enums = []; variables = variables; functions = []; steps = AssertStep ts ∷ [] }

-- the job of a seed: so many terms over the eight variables
abbrev pub job_generated : (seed count : ℕ) → PlainJob
job_generated seed count = job_of_terms generated_variables (generated_terms seed count)
