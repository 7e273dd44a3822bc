-- Why a run is refused.
use Rattle.std.specs.Prelude.{ℕ, ◌≡◌, ⊤, is_some, map, IfSome, IsTrue, List, [], ◌∷◌, Option}
use Rattle.law_terms.specs.Faults.{first_fault}
use Rattle.law_folding.specs.Built.{built}
use Rattle.law_jobs.specs.Jobs.{IsJob, PlainJob}
use Rattle.law_jobs.specs.Steps.{PlainStep, AssertStep, CheckStep, PopStep, PushStep, asserted, built_steps, checked_steps}
use Rattle.smt_solve.specs.Link.{LinkState}
use Rattle.smt_solve.specs.Starter.{Command as SolverCall, StarterState}
use Rattle.smt_runs.specs.Asking.{BreaksOff, WhyNotAsked}
use Rattle.smt_runs.specs.Jobs.{HasFaultOf, IsAJob, IsRefusedAs}
use Rattle.smt_runs.specs.Runs.{Around, IsPutRefusal, StartFailed}
use Rattle.smt_runs.specs.declared.refusal.Refusal.{Refusal}
use Rattle.smt_runs.specs.declared.refusal.Refusal.TheVariants.{Job, Encode, Source, Sink, Start, Session, Memory}
use Rattle.smt_cli.specs.declared.command.Command.{Command}
use Rattle.smt_cli.specs.declared.command.Command.TheVariants.{Script, Check, Generate}

-- the steps before the first check, or all steps where there is none
abbrev pub before_check : List PlainStep → List PlainStep
before_check [] = []
before_check (CheckStep ∷ steps) = []
before_check (AssertStep ts ∷ steps) = AssertStep ts ∷ before_check steps
before_check (PushStep ∷ steps) = PushStep ∷ before_check steps
before_check (PopStep ∷ steps) = PopStep ∷ before_check steps

-- a job has these bytes, and what is built of its steps before the first check has a fault
abbrev pub IsFaultyAtFirst : List ℕ → Type 0
IsFaultyAtFirst bytes =
    (job : PlainJob) × IsJob bytes job × IsTrue (is_some (first_fault job.enums (map built (asserted (before_check job.steps)))))

-- ---- why what was asked for was not done, besides what failed of the source and the sink

-- Why `script` was refused. A script is put only of a job.
abbrev pub WhyNotPrinted : (left old new : Option (List ℕ)) → Refusal → Type 0
WhyNotPrinted left old new (Job kind) = IfSome left (IsRefusedAs kind) × (new ≡ old)
WhyNotPrinted left old new (Encode kind) = IfSome left (HasFaultOf kind)
WhyNotPrinted left old new Source = new ≡ old
WhyNotPrinted left old new Sink = IfSome left IsAJob
WhyNotPrinted left old new Memory = ⊤
WhyNotPrinted left old new refusal = ⊥

module _ {L : Type 0} (state : L → LinkState) (allows : List ℕ → List ℕ → List ℕ → Type 0) (call : SolverCall)
    (before after : Around (StarterState L)) where
  -- A job has these bytes, and this is why a solver was not asked by all its steps, as they are built. A job with a section `terms` has
  -- one check, behind its terms.
  abbrev pub IsStopped : Refusal → List ℕ → Type 0
  IsStopped why bytes =
      (job : PlainJob) × (is : IsJob bytes job)
      × WhyNotAsked state allows before.beside after.beside call job.enums (built_steps (checked_steps is.section job.steps))
      before.held after.held ⊤ why

  -- Why `check` was refused. Where the source or the job was, the starter was asked for nothing.
  abbrev pub WhyNotChecked : Refusal → Type 0
  WhyNotChecked (Job kind) =
      IfSome before.left (IsRefusedAs kind) × (after.held ≡ before.held) × (after.beside ≡ before.beside)
  WhyNotChecked (Encode kind) = IfSome before.left (IsStopped (Encode kind))
  WhyNotChecked Source = (after.held ≡ before.held) × (after.beside ≡ before.beside)
  WhyNotChecked Sink = IfSome before.left (IsStopped Sink)
  WhyNotChecked Start =
      StartFailed before.beside after.beside × IfSome before.left (IsStopped Start) × (after.held ≡ before.held)
  WhyNotChecked (Session kind) = IfSome before.left (IsStopped (Session kind))
  WhyNotChecked Memory =
      IfSome before.left (λ bytes. BreaksOff state allows before.beside after.beside call before.held after.held)
  WhyNotChecked refusal = ⊥

  -- why what was asked for was refused
  abbrev pub WhyNotDone : Command → Refusal → Type 0
  WhyNotDone Script refusal = WhyNotPrinted before.left before.held after.held refusal
  WhyNotDone Check refusal = WhyNotChecked refusal
  WhyNotDone Generate refusal = IsPutRefusal refusal
