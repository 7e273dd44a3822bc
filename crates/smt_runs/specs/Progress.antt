-- How far an encoder has written the steps of a job by which a solver is asked.
use Rattle.std.specs.Prelude.{ℕ, ◌≡◌, List, [], ◌++◌, None}
use Rattle.law_terms.specs.Faults.{first_fault}
use Rattle.law_terms.specs.TypeValues.{Enums}
use Rattle.law_theorem.specs.Fits.{encoding_of, new_stages}
use Rattle.law_jobs.specs.Steps.{PlainStep, AreBalanced, asserted}
use Rattle.law_verdicts.specs.Dialogues.{AnsweredCheck}
use Rattle.smt_runs.specs.Asked.{AreAsked}
use Rattle.smt_runs.specs.JobTexts.{stages_behind}
use Rattle.smt_encode.specs.Encoded.{HasEncoding}
use Rattle.smt_encode.specs.declared.encoder.Encoder.{Encoder}
use Rattle.smt_runs.specs.Pieces.{StopsAt}

-- An encoder has written the steps before those that are left, of which the first is a check, if there is one. These are their checks,
-- and these lines stand behind the last of them. No step closes a level where none is open.
pub record AtPiece {S : Type 0} (enums : Enums) (encoder : Encoder S) (steps left : List PlainStep) (checks : List AnsweredCheck)
    (lines : List ℕ) : Type 0 where
  pub done : List PlainStep
  pub cut : steps ≡ done ++ left
  pub stops : StopsAt left
  pub faultless : first_fault enums (asserted done) ≡ None
  pub asked : AreAsked enums done new_stages [] checks lines
  pub stands : HasEncoding encoder (encoding_of (stages_behind enums done new_stages))
  pub balanced : AreBalanced 0 steps
