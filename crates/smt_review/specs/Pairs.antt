-- Jobs of two terms.
use Rattle.std.specs.Prelude.{ℕ, ◌≡◌, is_some, IsTrue, List, [], ◌∷◌, Option, Some, None}
use Rattle.law_terms.specs.Faults.{Fault, first_fault}
use Rattle.law_terms.specs.Plain.{PlainTerm}
use Rattle.law_folding.specs.Built.{built}
use Rattle.law_jobs.specs.Jobs.{IsJob, PlainJob}
use Rattle.law_jobs.specs.Steps.{PlainStep, AssertStep}
use Rattle.smt_review.specs.Reviews.{difference_of}
use Rattle.smt_review.specs.declared.relation.Relation.{Relation}

-- the two terms of steps that are one assertion of two terms; None of other steps
abbrev pub pair_of : List PlainStep → Option (PlainTerm × PlainTerm)
pair_of (AssertStep (t ∷ u ∷ []) ∷ []) = Some (t, u)
pair_of steps = None

-- The bytes are a job whose steps are one assertion of two terms, as they are written.
pub record IsPair (bytes : List ℕ) : Type 0 where
  pub job : PlainJob
  pub is_job : IsJob bytes job
  pub first : PlainTerm
  pub second : PlainTerm
  pub two : pair_of job.steps ≡ Some (first, second)

-- The bytes are a job whose steps are others.
abbrev pub IsNoPair : List ℕ → Type 0
IsNoPair bytes = (job : PlainJob) × IsJob bytes job × (pair_of job.steps ≡ None)

-- the first fault of the difference of the terms, as they are built: why it has no script
abbrev pub fault_between : {bytes : List ℕ} → Relation → IsPair bytes → Option Fault
fault_between relation p = first_fault p.job.enums (difference_of relation (built p.first) (built p.second) ∷ [])

-- a job of two terms has these bytes, and their difference has no fault
abbrev pub IsFaultlessPair : Relation → List ℕ → Type 0
IsFaultlessPair relation bytes = (p : IsPair bytes) × (fault_between relation p ≡ None)

-- a job of two terms has these bytes, and their difference has a fault
abbrev pub IsFaultyPair : Relation → List ℕ → Type 0
IsFaultyPair relation bytes = (p : IsPair bytes) × IsTrue (is_some (fault_between relation p))
