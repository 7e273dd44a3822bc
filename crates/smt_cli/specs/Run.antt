-- What a run does, and what it says.
use Rattle.std.specs.Prelude.{ℕ, ◌≡◌, ◌⊎◌, IfSome, List, ◌++◌, Option, Some, None}
use Rattle.std.specs.Io.KnownBytes.{append_known}
use Rattle.smt_solve.specs.Link.{LinkState}
use Rattle.smt_solve.specs.Starter.{Command as SolverCall, StarterState}
use Rattle.law_verdicts.specs.Dialogues.{sent_for}
use Rattle.law_verdicts.specs.Honesty.{IsHonest}
use Rattle.law_jobs.specs.Jobs.{IsJob, PlainJob, fault_of}
use Rattle.law_jobs.specs.Steps.{PlainStep, built_steps, checked_steps}
use Rattle.smt_runs.specs.Asked.{AreBelieved}
use Rattle.law_verdicts.specs.Idle.{TellsAll}
use Rattle.smt_runs.specs.JobTexts.{text_of_job}
use Rattle.smt_runs.specs.Meaning.{MeansSteps}
use Rattle.smt_runs.specs.Asking.{AsksSolver}
use Rattle.smt_runs.specs.Jobs.{IsFaultlessJob, IsFaultyScript, IsNoJob}
use Rattle.smt_program.specs.declared.words.Asked.{Asked}
use Rattle.smt_program.specs.declared.words.Asked.TheVariants.{Own, Help, Version}
use Rattle.smt_runs.specs.Runs.{Around, Reads}
use Rattle.smt_cli.specs.Causes.{IsFaultyAtFirst}
use Rattle.smt_cli.specs.Generation.{Summarizes}
use Rattle.smt_cli.specs.declared.command.Command.{Command}
use Rattle.smt_cli.specs.declared.command.Command.TheVariants.{Script, Check, Generate}

-- ---- `script`

-- The bytes are a job, and the script of what is built of its steps was put, with a line `(check-sat)` for each check. What that says of
-- the terms as they are written which are current at its end is said by `MeansSteps`: the script's models are exactly the
-- interpretations that make the built ones true, and an interpretation of these terms as they are written makes them true exactly
-- where what the built ones reach of it is carried to a model. A job with a section `terms` has all its terms current at its end.
pub record Prints (old new : Option (List ℕ)) (bytes : List ℕ) : Type 0 where
  pub job : PlainJob
  pub is_job : IsJob bytes job
  pub faultless : fault_of job ≡ None
  pub printed : new ≡ append_known old (text_of_job job.enums (built_steps job.steps))
  pub means : MeansSteps job.enums job.steps

-- ---- `check`

-- the steps of a job by which a solver is asked: a job with a section `terms` has one check, behind its terms
abbrev pub steps_to_check : (bytes : List ℕ) (job : PlainJob) → IsJob bytes job → List PlainStep
steps_to_check bytes job is = checked_steps is.section job.steps

module _ {L : Type 0} (state : L → LinkState) (allows : List ℕ → List ℕ → List ℕ → Type 0) (call : SolverCall)
    (before after : Around (StarterState L)) where
  -- The bytes are a job. A solver was started by the command and asked by the steps of the job, as they are built: it was sent
  -- `(set-logic ALL)` and the text of these steps, its link came back, and for each check the word of the one line that it gave was put,
  -- in order. Where the starter is honest, each `unsat` says that no interpretation makes all terms true, as they are written, that are
  -- current at its check.
  pub record Checks (bytes : List ℕ) : Type 0 where
    pub job : PlainJob
    pub is_job : IsJob bytes job
    pub faultless : fault_of job ≡ None
    pub asks :
        AsksSolver state allows before.beside after.beside call job.enums (built_steps (steps_to_check bytes job is_job)) before.held
        after.held
    pub sent : sent_for asks.checks ++ asks.rest ≡ text_of_job job.enums (built_steps (steps_to_check bytes job is_job))
    pub believed : TellsAll (state asks.returns.link) → IsHonest allows →
        AreBelieved job.enums (steps_to_check bytes job is_job) asks.checks

  -- What was asked for is done, where `gen` names this generated job.
  abbrev pub IsDone : (generation : Option (ℕ × ℕ)) → Command → Type 0
  IsDone generation Script = Reads (Prints before.held after.held) before.left after.left
  IsDone generation Check = Reads Checks before.left after.left
  IsDone generation Generate = Summarizes before.held after.held generation

-- ---- what a status says

-- But for want of memory, and where nothing failed, the script of a job without fault is printed, such a job is checked or its
-- session fails, a job with a fault is refused by the encoder, though not where its session fails at a check before that, what is no
-- job is refused as such, the summary of a generated job is printed, and so is the text of another word. A fault before the first
-- check comes before the solver starts.
pub record IsComplete (asked : Option (Asked Command)) (left : Option (List ℕ)) (source_failed sink_failed start_failed : Type 0)
    (status : ℕ) : Type 0 where
  pub accepted : asked ≡ Some (Own Script) → ¬ source_failed → ¬ sink_failed →
      IfSome left (λ bytes. IsFaultlessJob bytes → (status ≡ 0) ⊎ (status ≡ 7))
  pub checked : asked ≡ Some (Own Check) → ¬ source_failed → ¬ sink_failed → ¬ start_failed →
      IfSome left (λ bytes. IsFaultlessJob bytes → (status ≡ 0) ⊎ ((status ≡ 7) ⊎ (status ≡ 8)))
  pub unwritten : asked ≡ Some (Own Script) → ¬ source_failed → ¬ sink_failed →
      IfSome left (λ bytes. IsFaultyScript bytes → (status ≡ 4) ⊎ (status ≡ 7))
  pub unanswered : asked ≡ Some (Own Check) → ¬ source_failed → ¬ sink_failed → ¬ start_failed →
      IfSome left (λ bytes. IsFaultyScript bytes → (status ≡ 4) ⊎ ((status ≡ 7) ⊎ (status ≡ 8)))
  pub unasked : asked ≡ Some (Own Check) → ¬ source_failed → ¬ sink_failed →
      IfSome left (λ bytes. IsFaultyAtFirst bytes → (status ≡ 4) ⊎ (status ≡ 7))
  pub rejected : (asked ≡ Some (Own Script)) ⊎ (asked ≡ Some (Own Check)) → ¬ source_failed →
      IfSome left (λ bytes. IsNoJob bytes → (status ≡ 3) ⊎ (status ≡ 7))
  pub summarized : asked ≡ Some (Own Generate) → ¬ sink_failed → (status ≡ 0) ⊎ (status ≡ 7)
  pub printed : (asked ≡ Some Help) ⊎ (asked ≡ Some Version) → ¬ sink_failed → (status ≡ 0) ⊎ (status ≡ 7)
