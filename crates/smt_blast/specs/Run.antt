-- What a run does, and what it says.
use Rattle.std.specs.Prelude.{ℕ, ◌≡◌, ◌↔◌, ◌⊎◌, IfSome, List, Option, Some, None}
use Rattle.std.specs.Io.KnownBytes.{append_known}
use Rattle.law_terms.specs.Interpretations.{IsInterpretation}
use Rattle.law_terms.specs.Meaning.{AreTrue}
use Rattle.law_terms.specs.Tables.{Interpretation}
use Rattle.law_scripts.specs.Value.{IsModel}
use Rattle.law_blasting.specs.Theorem.{new_roots, AreFaithful}
use Rattle.law_jobs.specs.Jobs.{IsJob, PlainJob}
use Rattle.law_jobs.specs.Steps.{current}
use Rattle.smt_nodes.specs.Interned.{StandFor}
use Rattle.smt_nodes.specs.View.{ids_of}
use Rattle.smt_blast.specs.declared.blasted.Blasted.{Blasted}
use Rattle.smt_runs.specs.Jobs.{IsNoJob}
use Rattle.smt_program.specs.declared.words.Asked.{Asked}
use Rattle.smt_program.specs.declared.words.Asked.TheVariants.{Own, Help, Version}
use Rattle.smt_runs.specs.Runs.{Around, Reads}
use Rattle.smt_blast.specs.Causes.{IsTakenJob, IsUntakenJob, current_terms, refusal_in}
use Rattle.smt_blast.specs.Meaning.{MeansBlasted, blasted_text, carried_bits}
use Rattle.smt_blast.specs.declared.command.Command.{Command}
use Rattle.smt_blast.specs.declared.command.Command.TheVariants.{Blast}

-- ---- what is read

-- These are the blasted terms that are current behind all steps of a job, which was read of what the source had left, where it told that.
pub record IsBlastedOf (remaining : Option (List ℕ)) (blasted : Blasted) : Type 0 where
  pub job : PlainJob
  pub is_job : IfSome remaining (λ bytes. IsJob bytes job)
  pub taken : refusal_in job ≡ None
  pub stand : StandFor blasted.nodes (ids_of blasted.roots) (new_roots (current_terms job))
  pub faithful : AreFaithful job.enums (current_terms job)

-- ---- what is put

-- The bytes are a job whose terms that are current behind all its steps, as they are built, have no refusal, and the script of their
-- blasted terms was put. What it says of these terms is said by `MeansBlasted`. An interpretation of the terms as they are written makes
-- them true exactly where its bits, as far as the new terms reach them, are carried to a model of the script.
pub record Prints (old new : Option (List ℕ)) (bytes : List ℕ) : Type 0 where
  pub job : PlainJob
  pub is_job : IsJob bytes job
  pub taken : refusal_in job ≡ None
  pub printed : new ≡ append_known old (blasted_text (current_terms job))
  pub means : MeansBlasted job.enums (current_terms job)
  pub true_as_written : (I : Interpretation) → IsInterpretation job.enums (current job.steps) I →
      AreTrue I (current job.steps) ↔ IsModel (carried_bits (current_terms job) I) means.means.state

-- what the program does: it reads the source and prints
abbrev pub ReadsAndPrints : (before after : Around (Unit {0})) → Type 0
ReadsAndPrints before after = Reads (Prints before.held after.held) before.left after.left

-- ---- what a status says

-- But for want of memory, and where nothing failed, the script of a job whose terms have no refusal is printed, a job with one is refused
-- by it, what is no job is refused as such, and the text of a word is printed.
pub record IsComplete (asked : Option (Asked Command)) (left : Option (List ℕ)) (source_failed sink_failed : Type 0) (status : ℕ)
    : Type 0 where
  pub accepted : asked ≡ Some (Own Blast) → ¬ source_failed → ¬ sink_failed →
      IfSome left (λ bytes. IsTakenJob bytes → (status ≡ 0) ⊎ (status ≡ 7))
  pub unblasted : asked ≡ Some (Own Blast) → ¬ source_failed →
      IfSome left (λ bytes. IsUntakenJob bytes → (status ≡ 10) ⊎ (status ≡ 7))
  pub rejected : asked ≡ Some (Own Blast) → ¬ source_failed →
      IfSome left (λ bytes. IsNoJob bytes → (status ≡ 3) ⊎ (status ≡ 7))
  pub printed : (asked ≡ Some Help) ⊎ (asked ≡ Some Version) → ¬ sink_failed → (status ≡ 0) ⊎ (status ≡ 7)
