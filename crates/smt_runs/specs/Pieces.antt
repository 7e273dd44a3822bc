-- The steps of a job that are written up to the next check.
use Rattle.std.specs.Prelude.{ℕ, zero, ◌≡◌, ⊤, List, [], ◌∷◌, ◌++◌, Option, None}
use Rattle.std.specs.Io.KnownBytes.{append_known}
use Rattle.law_terms.specs.Faults.{first_fault}
use Rattle.law_terms.specs.TypeValues.{Enums}
use Rattle.law_theorem.specs.Fits.{Stages, encoding_of}
use Rattle.law_jobs.specs.Steps.{PlainStep, AssertStep, CheckStep, PopStep, PushStep, asserted}
use Rattle.smt_runs.specs.JobTexts.{checks_in, stages_behind, text_behind, text_of_job}
use Rattle.smt_encode.specs.Encoded.{HasEncoding}
use Rattle.smt_encode.specs.declared.encoder.Encoder.{Encoder}

-- no step is left, or the next one is a check
abbrev pub StopsAt : List PlainStep → Type 0
StopsAt [] = ⊤
StopsAt (CheckStep ∷ steps) = ⊤
StopsAt (AssertStep ts ∷ steps) = ⊥
StopsAt (PushStep ∷ steps) = ⊥
StopsAt (PopStep ∷ steps) = ⊥

-- Behind stages the steps before the next check were written: a sink that held something got their text, the encoder has the names and
-- levels to which they lead, and these steps are left. What was written has no fault.
pub record PutsPiece {S : Type 0} (enums : Enums) (held now : Option (List ℕ)) (new : Encoder S) (x : Stages) (steps left : List PlainStep)
    : Type 0 where
  pub written : List PlainStep
  pub cut : steps ≡ written ++ left
  pub silent : checks_in written ≡ zero
  pub stops : StopsAt left
  pub faultless : first_fault enums (asserted written) ≡ None
  pub got : now ≡ append_known held (text_behind enums written x)
  pub stands : HasEncoding new (encoding_of (stages_behind enums written x))

-- All steps were written: the sink got their text, with a line for each check, and they have no fault.
pub record PutsSteps (enums : Enums) (held now : Option (List ℕ)) (steps : List PlainStep) : Type 0 where
  pub faultless : first_fault enums (asserted steps) ≡ None
  pub got : now ≡ append_known held (text_of_job enums steps)
