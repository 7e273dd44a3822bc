-- What is known of inputs.
use Rattle.std.specs.Prelude.{◌≡◌, ℕ, List}
use Rattle.std.specs.List.{AllByRecursion}
use Rattle.law_assignments.specs.Assignments.{PlainAssignment}
use Rattle.law_assignments.specs.Covered.{Covers}
use Rattle.law_assignments.specs.Sound.{IsSound}
use Rattle.law_jobs.specs.Jobs.{PlainJob}
use Rattle.law_jobs.specs.Steps.{current}
use Rattle.law_terms.specs.Formed.{IsFormed}
use Rattle.law_terms.specs.Typing.{AreBoolean}
use Rattle.law_assignments.specs.Inputs.{IsFaultyInput, IsInput, IsInputBuilt}
use Rattle.law_assignments.specs.Outcomes.{InputFault}

-- The terms that are current at the end of a job are Booleans, and an assignment is sound and gives all that they reach.
pub record IsEvaluable (job : PlainJob) (a : PlainAssignment) : Type 0 where
  pub sound : IsSound job.enums a
  pub covered : Covers a (current job.steps)
  pub boolean : AreBoolean (current job.steps)
  pub formed : AllByRecursion IsFormed (current job.steps)

-- What is built of an input is evaluable, so that each term that is current at its end evaluates to a truth.
abbrev pub InputsAreEvaluable : Type 0
InputsAreEvaluable = (bytes : List ℕ) (job : PlainJob) (a : PlainAssignment) → IsInputBuilt bytes job a → IsEvaluable job a

-- Bytes are one input at most, and an input has no fault. So it is refused for want of memory alone.
pub record InputsAreNotRefused : Type 0 where
  pub one : (bytes : List ℕ) (j k : PlainJob) (a b : PlainAssignment) → IsInput bytes j a → IsInput bytes k b → (j ≡ k) × (a ≡ b)
  pub sound : (bytes : List ℕ) (job : PlainJob) (a : PlainAssignment) (fault : InputFault) → IsInput bytes job a →
      IsFaultyInput bytes fault → ⊥
