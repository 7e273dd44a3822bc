-- What the verdicts on a job say of its terms.
use Rattle.std.proofs.Common.{◌≡◌, ℕ, List, [], Option, Some, None}
use Rattle.std.specs.Prelude.{IfSome}
use Rattle.law_terms.specs.TypeValues.{Enums}
use Rattle.law_theorem.specs.Fits.{new_stages}
use Rattle.law_jobs.specs.Jobs.{IsBuiltFrom, IsJob, PlainJob, fault_of}
use Rattle.law_jobs.specs.Steps.{PlainStep, Section, built_steps, checked_steps}
use Rattle.smt_runs.proofs.Asking.{asked_text}
use Rattle.smt_runs.proofs.Believing.{answers_are_believed}
use Rattle.smt_runs.proofs.Meaning.{jobs_are_writable}
use Rattle.smt_solve.specs.Link.{LinkState}
use Rattle.smt_solve.specs.Starter.{Command as SolverCall, StarterState}
use Rattle.smt_runs.specs.Asking.{AsksSolver}
use Rattle.smt_runs.specs.Runs.{Around}
use Rattle.smt_cli.specs.Run.{Checks, steps_to_check}
use Rattle.smt_cli.proofs.Asking.{faultless_job, of_steps}

module _ {L : Type 0} (state : L → LinkState) (allows : List ℕ → List ℕ → List ℕ → Type 0) (call : SolverCall) (before after : Around (StarterState L)) where
  of_job : (bytes : List ℕ) (job : PlainJob) (is : IsJob bytes job) → AsksSolver state allows before.beside after.beside call job.enums (built_steps (steps_to_check bytes job is)) before.held after.held → Checks state allows call before after bytes
  of_job bytes job is asks =
      let all = asks.returns.of_link in
      let steps = steps_to_check bytes job is in
      let none : fault_of job ≡ None = faultless_job job is.section all.faultless in
      record {
        job = job;
        is_job = is;
        faultless = none;
        asks = asks;
        sent = asked_text job.enums (built_steps steps) new_stages [] asks.checks asks.rest all.asked;
        believed = λ told honest. answers_are_believed allows job.enums steps (state asks.returns.link) asks.checks asks.rest (jobs_are_writable.checked bytes job is.section is none) all.asked all.answered all.gave told honest;
      }

  -- What was read whole is a job by whose steps a solver was asked.
  pub checked : (left : Option (List ℕ)) (section : Section) (job : PlainJob) → IfSome left (λ bytes. IsBuiltFrom bytes section job)
      → AsksSolver state allows before.beside after.beside call job.enums (checked_steps section job.steps) before.held after.held → IfSome left (Checks state allows call before after)
  checked None section job is asks = tt
  checked (Some bytes) section job is asks =
      of_job bytes is.written is.is_job (of_steps bytes section job is (λ (enums : Enums) (steps : List PlainStep). AsksSolver state allows before.beside after.beside call enums steps before.held after.held) asks)
