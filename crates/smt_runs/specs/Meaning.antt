-- What the text of a job's steps says of its terms as they are written.
use Rattle.std.specs.Prelude.{ℕ, ◌+◌, ◌≡◌, ◌↔◌, map, List, None, Ok}
use Rattle.std.specs.List.{AllByRecursion}
use Rattle.law_terms.specs.Faults.{first_fault}
use Rattle.law_terms.specs.Interpretations.{IsInterpretation, restrict}
use Rattle.law_terms.specs.Meaning.{AreTrue}
use Rattle.law_terms.specs.Tables.{Interpretation}
use Rattle.law_terms.specs.TypeValues.{Enums, AreEnums}
use Rattle.law_folding.specs.Built.{built}
use Rattle.law_scripts.specs.Value.{IsModel}
use Rattle.law_theorem.specs.CarriedInterpretations.{carry_interpretation}
use Rattle.law_theorem.specs.Headline.{Headline}
use Rattle.law_theorem.specs.WellWritten.{IsWellWritten}
use Rattle.law_texts.specs.Reading.{Expression}
use Rattle.law_jobs.specs.Jobs.{IsJob, PlainJob, fault_of, job_of}
use Rattle.law_jobs.specs.Laws.{IsCondition}
use Rattle.law_jobs.specs.Steps.{PlainStep, AreBalanced, Section, asserted, built_steps, checked_steps, current}
use Rattle.smt_runs.specs.JobTexts.{most_for_steps, names_of_job, text_of_job}

-- Steps that have a script: each term that they assert is a condition as it is written, what is built of the terms has no fault, no step
-- closes a level where none is open, and the members of each enum type ascend.
pub record AreWritable (enums : Enums) (steps : List PlainStep) : Type 0 where
  pub enum_types : AreEnums enums
  pub conditions : AllByRecursion IsCondition (asserted steps)
  pub faultless : first_fault enums (map built (asserted steps)) ≡ None
  pub balanced : AreBalanced 0 steps

-- The text of what is built of steps is a script whose models are exactly the interpretations that make all built terms true which are
-- current at the end. An interpretation of these terms as they are written makes them true exactly where what the built terms reach of
-- it is carried to a model. The script is well sorted, defines each built term that lives at its end once, from the names and the inline
-- literals of its parts, and has no more commands than one and what each step asks for.
pub record MeansSteps (enums : Enums) (steps : List PlainStep) : Type 0 where
  pub means : Headline enums (names_of_job enums (built_steps steps)) (map built (current steps)) (text_of_job enums (built_steps steps))
  pub true_as_written : (I : Interpretation) → IsInterpretation enums (current steps) I →
      AreTrue I (current steps)
      ↔ IsModel (carry_interpretation enums (names_of_job enums (built_steps steps)) (restrict I (map built (current steps)))) means.state
  pub well_written :
      IsWellWritten enums (text_of_job enums (built_steps steps)) (map built (current steps)) (names_of_job enums (built_steps steps))
      (1 + most_for_steps (built_steps steps))

-- Writable steps mean this.
abbrev pub WritableStepsMean : Type 0
WritableStepsMean = (enums : Enums) (steps : List PlainStep) → AreWritable enums steps → MeansSteps enums steps

-- The steps of a job whose built terms have no fault are writable, whether an expression states it or bytes, and so are those by which a
-- solver is asked about it.
pub record JobsAreWritable : Type 0 where
  pub stated : (e : Expression) (section : Section) (job : PlainJob) → job_of e ≡ Ok (section, job) → fault_of job ≡ None →
      AreWritable job.enums job.steps
  pub of_job : (bytes : List ℕ) (job : PlainJob) → IsJob bytes job → fault_of job ≡ None → AreWritable job.enums job.steps
  pub checked : (bytes : List ℕ) (job : PlainJob) (section : Section) → IsJob bytes job → fault_of job ≡ None →
      AreWritable job.enums (checked_steps section job.steps)
