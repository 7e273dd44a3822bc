-- What a run does, and when.
use Rattle.std.specs.Prelude.{ℕ, ◌≡◌, ◌⊎◌, IfSome, List, Option, Some}
use Rattle.std.specs.Io.KnownBytes.{append_known}
use Rattle.law_assignments.specs.Assignments.{PlainAssignment}
use Rattle.law_assignments.specs.Inputs.{IsInput, IsInputBuilt}
use Rattle.law_jobs.specs.Jobs.{PlainJob}
use Rattle.smt_eval.specs.AssignmentView.{plain_assignment}
use Rattle.smt_eval.specs.declared.input.EvalInput.{EvalInput}
use Rattle.smt_jobs.specs.JobView.{plain_job}
use Rattle.smt_program.specs.declared.words.Asked.{Asked}
use Rattle.smt_program.specs.declared.words.Asked.TheVariants.{Own, Help, Version}
use Rattle.smt_runs.specs.Runs.{Around, Reads}
use Rattle.smt_eval.specs.Answers.{MeansHolds, answer_text, current_terms, truths_in}
use Rattle.smt_eval.specs.Causes.{IsAnInput, IsNoInput}
use Rattle.smt_eval.specs.declared.command.Command.{Command}
use Rattle.smt_eval.specs.declared.command.Command.TheVariants.{Evaluate}

-- An input was read of bytes, which are what the source had left, where it told that.
pub record IsReadOf (remaining : Option (List ℕ)) (input : EvalInput) : Type 0 where
  pub bytes : List ℕ
  pub told : IfSome remaining (λ told. told ≡ bytes)
  pub is_built : IsInputBuilt bytes (plain_job input.job) (plain_assignment input.given)

-- The bytes are a job with an assignment, and a line was put for the truth of each term that is current behind all its steps, and then the
-- last line. What `holds` is worth there is said by `MeansHolds`.
pub record Evaluates (old new : Option (List ℕ)) (bytes : List ℕ) : Type 0 where
  pub job : PlainJob
  pub given : PlainAssignment
  pub is_input : IsInput bytes job given
  pub printed : new ≡ append_known old (answer_text (truths_in given (current_terms job)))
  pub means : MeansHolds given job

-- what the program does: it reads the source and evaluates
abbrev pub ReadsAndEvaluates : (before after : Around (Unit {0})) → Type 0
ReadsAndEvaluates before after = Reads (Evaluates before.held after.held) before.left after.left

-- But for want of memory, and where nothing failed, an input is evaluated, what is no input is refused as such, and the text of a word is
-- printed.
pub record IsComplete (asked : Option (Asked Command)) (left : Option (List ℕ)) (source_failed sink_failed : Type 0) (status : ℕ)
    : Type 0 where
  pub accepted : asked ≡ Some (Own Evaluate) → ¬ source_failed → ¬ sink_failed →
      IfSome left (λ bytes. IsAnInput bytes → (status ≡ 0) ⊎ (status ≡ 7))
  pub rejected : asked ≡ Some (Own Evaluate) → ¬ source_failed →
      IfSome left (λ bytes. IsNoInput bytes → (status ≡ 3) ⊎ (status ≡ 7))
  pub printed : (asked ≡ Some Help) ⊎ (asked ≡ Some Version) → ¬ sink_failed → (status ≡ 0) ⊎ (status ≡ 7)
