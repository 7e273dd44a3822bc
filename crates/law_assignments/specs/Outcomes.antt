-- What a part of an input states: itself, or the first fault in it.
use Rattle.std.specs.Prelude.{ℕ, List, Option, Some, None, Ok, Err, Result}
use Rattle.law_jobs.specs.Outcomes.{JobFault, Outcome}

-- why an expression is no job with an assignment
pub data InputFault : Type 0 where
  -- a section or an entry has no form, or the type of a get none
  FormlessInput : InputFault
  -- the job is refused
  RefusedJob : JobFault → InputFault
  -- no variable, function or selector has this name
  UnknownEntry : (name : List ℕ) → InputFault
  -- a name, a type, or a key in the entry of this name is given twice
  DuplicateEntry : (name : List ℕ) → InputFault
  -- what stands for a value in the entry of this name is none of its type
  NoValue : (name : List ℕ) → InputFault
  -- no entry gives what the terms reach
  MissingEntry : (name : List ℕ) → InputFault

-- what is stated of a part of an input: the thing that it states, or the first fault in it
abbrev pub InputOutcome : Type 0 → Type 0
InputOutcome A = Result A InputFault

-- a name, unless something is given for it
abbrev pub unless_given : {A : Type 0} → Option A → (name : List ℕ) → InputOutcome (List ℕ)
unless_given (Some a) name = Err (DuplicateEntry name)
unless_given None name = Ok name

-- what a part of a job states, as part of an input
abbrev pub of_job : {A : Type 0} → Outcome A → InputOutcome A
of_job (Ok a) = Ok a
of_job (Err fault) = Err (RefusedJob fault)
