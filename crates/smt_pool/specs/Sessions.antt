-- What is known of sessions that no caller holds, and how many of them are started and given back together.
use Rattle.std.specs.Prelude.{ℕ, ◌-◌, ◌<◌, ◌≤◌, ◌≡◌, ◌≢◌, ◌⊎◌, ◌+◌, ⊤, Bool, false, List, [], ◌++◌, length, drop, replicate, All, IfErr}
use Rattle.std.specs.Prelude.{IfOk, IfSome, IsErrOf, IsOkUnless, OnErr, OnOk, Option, Result}
use Rattle.std.specs.Option.{option_map}
use Rattle.smt_script.specs.CommandTexts.{reset_text}
use Rattle.smt_script.specs.Memory.{counted}
use Rattle.smt_script.specs.Sink.{Rose}
use Rattle.smt_solve.specs.Link.{AllowsOnly, IsOver, IsUnused, LinkState}
use Rattle.smt_solve.specs.Question.{BeginsExchange, Exchanges, Spares, TellsToComeAlike}
use Rattle.smt_solve.specs.Session.{session_failed, session_link, state_by}
use Rattle.smt_solve.specs.Starter.{Command, StarterState, add_told}
use Rattle.smt_solve.specs.declared.error.SolverError.{SolverError}
use Rattle.smt_solve.specs.declared.error.SolverError.TheVariants.{Io, Memory}
use Rattle.smt_solve.specs.declared.link.LinkError.{LinkError}
use Rattle.smt_solve.specs.declared.link.LinkError.TheVariants.{Fault}
use Rattle.smt_solve.specs.declared.session.LocalSolver.{LocalSolver}
use Rattle.smt_solve.specs.declared.starter.StartError.{StartError}
use Rattle.smt_solve.specs.declared.starter.StartError.TheVariants.{Memory as StartMemory}
use Rattle.smt_pool.specs.declared.error.SolverPoolError.{SolverPoolError}
use Rattle.smt_pool.specs.declared.error.SolverPoolError.TheVariants.{SemaphoreClosed, AcquireTimeout, Solver, Memory as PoolMemory}

-- The bytes `last` stand at the end of the text.
abbrev pub EndsWith : List ℕ → List ℕ → Type 0
EndsWith text last = drop (length text - length last) text ≡ last

-- Nothing was sent, or `(reset)` with its LF was sent last (SMT-LIB 2.7, chapter 4), so that the solver is as at its start.
abbrev pub IsClean : List ℕ → Type 0
IsClean text = text ≢ [] → EndsWith text reset_text

-- A session may be handed out: it has not failed, and by what the link tells the solver knows nothing of what earlier holders
-- sent.
pub record IsReady {L : Type 0} (state : L → LinkState) (s : LocalSolver L) : Type 0 where
  pub unfailed : session_failed s ≡ false
  pub clean : IfSome (state_by state s).sent IsClean

-- All of these sessions may be handed out.
abbrev pub AreReady : {L : Type 0} → (L → LinkState) → List (LocalSolver L) → Type 0
AreReady state sessions = All (IsReady state) sessions

-- A session was just started: it has not failed, and no call was made on its link.
pub record IsStarted {L : Type 0} (state : L → LinkState) (s : LocalSolver L) : Type 0 where
  pub unfailed : session_failed s ≡ false
  pub unused : IsUnused (state_by state s)

-- All of these sessions were just started.
abbrev pub AreUnused : {L : Type 0} → (L → LinkState) → List (LocalSolver L) → Type 0
AreUnused state sessions = All (IsStarted state) sessions

-- The links of these sessions allow only lines that `allowed` allows.
abbrev pub AreHonest : {L : Type 0} → (L → List ℕ → List ℕ → List ℕ → Type 0) → (List ℕ → List ℕ → List ℕ → Type 0) → List (LocalSolver L) →
    Type 0
AreHonest allows allowed sessions = All (λ s. AllowsOnly (allows (session_link s)) allowed) sessions

-- a list that is told, with these members more at its end
abbrev pub add_all : {X : Type 0} → Option (List X) → List X → Option (List X)
add_all told xs = option_map (λ ys. ys ++ xs) told

-- A starter was asked for this command so many times, and for nothing else.
pub record IsAsked {L : Type 0} (old new : StarterState L) (command : Command) (times : ℕ) : Type 0 where
  pub commands : new.commands ≡ add_all old.commands (replicate times command)
  pub same_returned : new.returned ≡ old.returned
  pub same_link_faults : new.link_faults ≡ old.link_faults
  pub later : old.failed_starts ≤ new.failed_starts

-- Why a session was not started by this command.
abbrev pub WhyNotStarted : {L : Type 0} → (old new : StarterState L) → Command → SolverPoolError → Type 0
WhyNotStarted old new command SemaphoreClosed = ⊥
WhyNotStarted old new command AcquireTimeout = ⊥
WhyNotStarted old new command (Solver error) = (error ≡ Io) × IsAsked old new command 1 × Rose old.failed_starts new.failed_starts
WhyNotStarted old new command PoolMemory = ⊤

-- As many sessions as `count` are started by this command, or some of them where one did not start.
pub record StartsMany {L T : Type 0} (old new : StarterState L) (command : Command) (count : ℕ) (sessions : List (LocalSolver L))
    (result : Result T SolverError) : Type 0 where
  pub ok : OnOk result (IsAsked old new command count × (length sessions ≡ count))
  pub io : IsErrOf result Io → IsAsked old new command (length sessions + 1) × Rose old.failed_starts new.failed_starts
  pub only : IfErr result (λ e. (e ≡ Io) ⊎ (e ≡ Memory))
  pub few : OnErr result (length sessions < count)
  pub same_returned : new.returned ≡ old.returned
  pub later : old.failed_starts ≤ new.failed_starts

-- A starter is given these links back, one after the other.
pub record FinishesAll {L T : Type 0} (old new : StarterState L) (links : List L) (result : Result T StartError) : Type 0 where
  pub ok : OnOk result (new.returned ≡ add_all old.returned links)
  pub refusal : IsOkUnless result StartMemory
  pub same_commands : new.commands ≡ old.commands
  pub same_failed_starts : new.failed_starts ≡ old.failed_starts

-- A starter is given back the link of a session that is not kept, which has failed `faults` times.
pub record FinishesOne {L : Type 0} (old new : StarterState L) (link : L) (faults : ℕ) (result : Result Bool SolverPoolError) : Type 0 where
  pub not_kept : IfOk result (λ kept. kept ≡ false)
  pub ok : OnOk result (new.returned ≡ add_told old.returned link)
  pub refusal : IsOkUnless result PoolMemory
  pub same_commands : new.commands ≡ old.commands
  pub same_failed_starts : new.failed_starts ≡ old.failed_starts
  pub faulty : 0 < faults → new.link_faults ≡ counted old.link_faults

-- A step sends `(reset)` with its LF to a session that had not failed.
pub record Resets {L T : Type 0} (state : L → LinkState) (old new : LocalSolver L) (result : Result T LinkError) : Type 0 where
  pub ready : OnOk result (IsReady state new)
  pub sent : OnOk result (Exchanges (state_by state old) (state_by state new) reset_text [])
  pub spared : Spares (state_by state old) (state_by state new)
  pub rose : IsErrOf result Fault → Rose (state_by state old).faults (state_by state new).faults
  pub begun : BeginsExchange (state_by state old) (state_by state new) reset_text
  pub told : TellsToComeAlike (state_by state old) (state_by state new)
  pub over : IsOver (state_by state old) → IsOver (state_by state new)
