-- Why a job was not checked.
use Rattle.std.proofs.Common.{◌≡◌, ℕ, List, Option, Some, None, inl}
use Rattle.std.specs.Prelude.{IfSome}
use Rattle.law_terms.specs.TypeValues.{Enums}
use Rattle.law_jobs.specs.Jobs.{IsBuiltFrom, PlainJob}
use Rattle.law_jobs.specs.Steps.{PlainStep, Section, checked_steps}
use Rattle.smt_solve.specs.Link.{LinkState}
use Rattle.smt_solve.specs.Starter.{Command as SolverCall, StarterState}
use Rattle.smt_runs.specs.Asking.{BreaksOff, WhyNotAsked}
use Rattle.smt_runs.specs.Jobs.{HasReadCause}
use Rattle.smt_runs.specs.Runs.{Around}
use Rattle.smt_runs.specs.declared.refusal.Refusal.{Refusal}
use Rattle.smt_runs.specs.declared.refusal.Refusal.TheVariants.{Job, Encode, Source, Sink, Start, Session, Memory}
use Rattle.smt_runs.proofs.Starting.{stopped_before, unasked_known}
use Rattle.smt_runs.proofs.Told.{always}
use Rattle.smt_cli.specs.Causes.{IsStopped, WhyNotChecked}
use Rattle.smt_cli.proofs.Asking.{of_steps}

module _ {L : Type 0} (state : L → LinkState) (allows : List ℕ → List ℕ → List ℕ → Type 0) (call : SolverCall) (before after : Around (StarterState L)) where
  -- why a solver was not asked by these steps
  abbrev Why : Refusal → Enums → List PlainStep → Type 0
  Why why enums steps = WhyNotAsked state allows before.beside after.beside call enums steps before.held after.held (Unit {0}) why

  stopped : (left : Option (List ℕ)) (section : Section) (job : PlainJob) (why : Refusal) → IfSome left (λ bytes. IsBuiltFrom bytes section job) → Why why job.enums (checked_steps section job.steps) → IfSome left (IsStopped state allows call before after why)
  stopped None section job why is h = tt
  stopped (Some bytes) section job why is h = (is.written, is.is_job, of_steps bytes section job is (Why why) h)

  why_stopped : (section : Section) (job : PlainJob) (why : Refusal) → IfSome before.left (λ bytes. IsBuiltFrom bytes section job) → Why why job.enums (checked_steps section job.steps) → WhyNotChecked state allows call before after why
  why_stopped section job (Encode kind) is h = stopped before.left section job (Encode kind) is h
  why_stopped section job Sink is h = stopped before.left section job Sink is h
  why_stopped section job Start is h = (h.0, stopped before.left section job Start is h, h.2)
  why_stopped section job (Session kind) is h = stopped before.left section job (Session kind) is h
  why_stopped section job Memory is h = always (λ bytes. BreaksOff state allows before.beside after.beside call before.held after.held) before.left (λ bytes. h)
  why_stopped section job why is h = absurd h

  -- a job that was read was not checked
  pub unasked : (failed : Type 0) (section : Section) (job : PlainJob) (why : Refusal) → IfSome before.left (λ bytes. IsBuiltFrom bytes section job)
      → WhyNotAsked state allows before.beside after.beside call job.enums (checked_steps section job.steps) before.held after.held failed why → WhyNotChecked state allows call before after why
  unasked failed section job why is h = why_stopped section job why is (unasked_known state allows before.beside after.beside call job.enums (checked_steps section job.steps) before.held after.held failed why h)

  -- no solver was started, and nothing was put
  pub stopped_early : after.beside ≡ before.beside → after.held ≡ before.held → WhyNotChecked state allows call before after Memory
  stopped_early unstarted unput =
      always (λ bytes. BreaksOff state allows before.beside after.beside call before.held after.held) before.left (λ bytes. inl (stopped_before before.beside after.beside call before.held after.held unstarted unput))

  -- no job was read
  pub unread : (failed : Type 0) → after.beside ≡ before.beside → after.held ≡ before.held → (why : Refusal) → HasReadCause before.left failed why → WhyNotChecked state allows call before after why
  unread failed unstarted unput (Job kind) h = (h, unput, unstarted)
  unread failed unstarted unput Source h = (unput, unstarted)
  unread failed unstarted unput Memory h = stopped_early unstarted unput
  unread failed unstarted unput why h = absurd h
