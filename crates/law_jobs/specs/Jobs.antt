-- Jobs. A job is one S-expression,
-- (job (enums ("T" "member" ..) ..) (vars ("id" TYPE) ..) (funs ("id" TYPE TYPE) ..) (terms t ..)),
-- or one with `(steps S ..)` in the place of `(terms t ..)`, each S of them `(assert t ..)`, `(push)`, `(pop)` or `(check)`. It has
-- at most 16777216 bytes, and at most 512 brackets are open at a place. The names of enum types are distinct, and so are the ids
-- of variables and those of functions. Each term is a Boolean, and no step closes a level where none is open.
use Rattle.std.specs.Prelude.{ℕ, ◌<◌, ◌≤◌, ◌≡◌, codes, length, map, List, Option, Ok, Err}
use Rattle.law_folding.specs.Built.{built}
use Rattle.law_terms.specs.Faults.{Fault, first_fault}
use Rattle.law_terms.specs.Plain.{PlainFunction, PlainType}
use Rattle.law_terms.specs.TypeValues.{Enums}
use Rattle.law_texts.specs.Reading.{Expression, Expressions, Nil, Cons}
use Rattle.law_texts.specs.Tokens.{IsReadWithin}
use Rattle.law_jobs.specs.Outcomes.{JobFault, Outcome, FormFault}
use Rattle.law_texts.specs.Outcomes.{◌>>=◌, demanded}
use Rattle.law_texts.specs.Parts.{section}
use Rattle.law_jobs.specs.Declarations.{Declarations, Declared, functions_of, variables_of}
use Rattle.law_jobs.specs.Enums.{enums_in}
use Rattle.law_jobs.specs.Steps.{PlainStep, Section, asserted, built_steps, headed, nothing_more, section_named}

-- a job without where it lies in memory: its enum types, the declared variables and functions, and its steps, with terms as written
pub record PlainJob : Type 0 where
  pub enums : Enums
  pub variables : Declarations PlainType
  pub functions : Declarations PlainFunction
  pub steps : List PlainStep

-- what a job declares, for the terms that name it
abbrev pub declarations_of : PlainJob → Declared
declarations_of job = record { enums = job.enums; variables = job.variables; functions = job.functions }

-- what stands behind a head in brackets, or the fault that it is no such section
abbrev pub section_of : List ℕ → Expression → Outcome Expressions
section_of head e = demanded FormFault (section head e)

-- what the first expression states as the section of this head, and the expressions behind it
abbrev pub section_first : {A : Type 0} → List ℕ → (Expressions → Outcome A) → Expressions → Outcome (A × Expressions)
section_first head reads Nil = Err FormFault
section_first head reads (Cons e es) = section_of head e >>= reads >>= λ a. Ok (a, es)

-- what the first three sections declare, and the expressions behind them: the enum types, the variables and the functions
abbrev pub declared_first : Expressions → Outcome (Declared × Expressions)
declared_first es =
    section_first (codes "enums") enums_in es >>= λ types. section_first (codes "vars") variables_of types.1 >>= λ vs.
    section_first (codes "funs") functions_of vs.1 >>= λ fs. Ok (record { enums = types.0; variables = vs.0; functions = fs.0 }, fs.1)

-- the steps of the last section, behind which nothing stands, and which section it is
abbrev pub steps_last : Declared → Expressions → Outcome (Section × List PlainStep)
steps_last ds (Cons last others) = headed last >>= λ p. section_named ds p.0 p.1 >>= λ x. nothing_more others >>= λ u. Ok x
steps_last ds Nil = Err FormFault

-- the job of four sections: enum types, variables, functions and then terms or steps, in this order and each of them there
abbrev pub job_of_sections : Expressions → Outcome (Section × PlainJob)
job_of_sections es =
    declared_first es >>=
    λ p.
    steps_last p.0 p.1 >>= λ x. Ok (x.0, record { enums = p.0.enums; variables = p.0.variables; functions = p.0.functions; steps = x.1 })

-- the job that an expression states, `(job ..)`, and by which section it gives its steps, or its first fault
abbrev pub job_of : Expression → Outcome (Section × PlainJob)
job_of e = section_of (codes "job") e >>= job_of_sections

-- the longest job, in bytes
abbrev pub greatest_length : ℕ
greatest_length = 16777216

-- the most brackets that are open at a place of a job
abbrev pub greatest_nesting : ℕ
greatest_nesting = 512

-- The bytes are this job: at most 16777216 of them, read as one expression within the limits of a reader, with at most 512
-- brackets open at a place, and the expression states the job, by one of the two sections.
pub record IsJob (bytes : List ℕ) (job : PlainJob) : Type 0 where
  pub short : length bytes ≤ greatest_length
  pub expression : Expression
  pub read : IsReadWithin bytes greatest_nesting expression
  pub section : Section
  pub stated : job_of expression ≡ Ok (section, job)

-- The bytes are an expression that is no job, by this first fault.
pub record IsFaultyJob (bytes : List ℕ) (fault : JobFault) : Type 0 where
  pub expression : Expression
  pub read : IsReadWithin bytes greatest_nesting expression
  pub stated : job_of expression ≡ Err fault

-- there are more bytes than a job may have
abbrev pub IsTooLong : List ℕ → Type 0
IsTooLong bytes = greatest_length < length bytes

-- The bytes have this first fault: they are not too many, and an expression within the limits that is no job by it. Bytes that are no
-- expression have no such fault, but one as a text.
abbrev pub HasFault : List ℕ → JobFault → Type 0
HasFault bytes fault = (length bytes ≤ greatest_length) × IsFaultyJob bytes fault

-- the job with its terms as they are built: each application is folded, its operands first. All else is as the job has it.
abbrev pub built_job : PlainJob → PlainJob
built_job job = record { enums = job.enums; variables = job.variables; functions = job.functions; steps = built_steps job.steps }

-- The bytes are a job, of which this is built, by this section.
pub record IsBuiltFrom (bytes : List ℕ) (section : Section) (job : PlainJob) : Type 0 where
  pub written : PlainJob
  pub is_job : IsJob bytes written
  pub by_section : is_job.section ≡ section
  pub is_built : job ≡ built_job written

-- the first fault of the terms that are built of all that a job asserts, with its enum types: why they have no script
abbrev pub fault_of : PlainJob → Option Fault
fault_of job = first_fault job.enums (map built (asserted job.steps))
