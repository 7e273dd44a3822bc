-- The job and the assignment that an input states. An input has at most 16777216 bytes, and at most 513 brackets are open at a
-- place: one more than in a job.
use Rattle.std.specs.Prelude.{ℕ, ◌≡◌, ◌≤◌, ⊤, length, map, List, Option, Some, None, Ok, Err}
use Rattle.law_assignments.specs.Assignments.{PlainAssignment}
use Rattle.law_assignments.specs.Covered.{first_missing}
use Rattle.law_folding.specs.Built.{built}
use Rattle.law_texts.specs.Reading.{Expression}
use Rattle.law_texts.specs.Tokens.{IsReadWithin}
use Rattle.law_jobs.specs.Jobs.{PlainJob, built_job, greatest_length, job_of, declarations_of}
use Rattle.law_jobs.specs.Steps.{current}
use Rattle.law_assignments.specs.Entries.{assignment_of}
use Rattle.law_assignments.specs.Outcomes.{InputFault, InputOutcome, of_job, FormlessInput, MissingEntry}
use Rattle.law_texts.specs.Outcomes.{◌>>=◌, demanded}
use Rattle.law_assignments.specs.Written.{WrittenInput, input_written}

-- nothing is missing, or else the fault of the first that is
abbrev pub unless_missing : Option (List ℕ) → InputOutcome ⊤
unless_missing (Some name) = Err (MissingEntry name)
unless_missing None = Ok tt

-- the job and the assignment of an input as it is written, which has to give all that the job's built terms reach that are current at its
-- end
abbrev pub input_inside : WrittenInput → InputOutcome (PlainJob × PlainAssignment)
input_inside w =
    of_job (job_of w.job) >>=
    λ x.
    assignment_of (declarations_of x.1) w >>= λ a. unless_missing (first_missing a (map built (current x.1.steps))) >>= λ u. Ok (x.1, a)

-- The job and the assignment that an expression states, or its first fault: the form of the whole first, then the job, then the
-- entries from the left, and then whether they give all that is reached.
abbrev pub input_of : Expression → InputOutcome (PlainJob × PlainAssignment)
input_of e = demanded FormlessInput (input_written e) >>= input_inside

-- the most brackets that are open at a place of an input
abbrev pub greatest_input_nesting : ℕ
greatest_input_nesting = 513

-- The bytes are this job with this assignment: at most 16777216 of them, read as one expression within the limits of a reader, with
-- at most 513 brackets open at a place, and the expression states the two.
pub record IsInput (bytes : List ℕ) (job : PlainJob) (a : PlainAssignment) : Type 0 where
  pub short : length bytes ≤ greatest_length
  pub expression : Expression
  pub read : IsReadWithin bytes greatest_input_nesting expression
  pub stated : input_of expression ≡ Ok (job, a)

-- The bytes are an input, of whose job this is built.
pub record IsInputBuilt (bytes : List ℕ) (job : PlainJob) (a : PlainAssignment) : Type 0 where
  pub written : PlainJob
  pub is_input : IsInput bytes written a
  pub is_built : job ≡ built_job written

-- The bytes are not too many, and are an expression that is no input, by this first fault.
pub record IsFaultyInput (bytes : List ℕ) (fault : InputFault) : Type 0 where
  pub short : length bytes ≤ greatest_length
  pub expression : Expression
  pub read : IsReadWithin bytes greatest_input_nesting expression
  pub stated : input_of expression ≡ Err fault
