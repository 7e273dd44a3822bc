-- What a session over a link has, and how it starts.
use Rattle.std.specs.Prelude.{ℕ, ◌+◌, ◌-◌, ◌^◌, ◌≤◌, ◌≡◌, ◌⊎◌, min, Bool, false, IsTrue, List, codes, is_err, IfErr, OnOk, IsErrOf, Option}
use Rattle.std.specs.Prelude.{Result, Ok, Err}
use Rattle.smt_script.specs.Sink.{Rose}
use Rattle.smt_script.specs.declared.sink.SinkError.{SinkError}
use Rattle.smt_script.specs.declared.sink.SinkError.TheVariants.{Fault, Memory as SinkWant}
use Rattle.smt_solve.specs.Link.{AllowsTheSame, LinkState}
use Rattle.smt_solve.specs.Starter.{Command, StarterState, add_told}
use Rattle.smt_solve.specs.declared.error.SolverError.{SolverError}
use Rattle.smt_solve.specs.declared.error.SolverError.TheVariants.{Io, SolverMarkedFailed, Memory}
use Rattle.smt_solve.specs.declared.link.LinkError.{LinkError}
use Rattle.smt_solve.specs.declared.link.LinkError.TheVariants.{Fault as LinkFault, Memory as LinkWant}
use Rattle.smt_solve.specs.declared.session.LocalSolver.{LocalSolver}
use Rattle.smt_solve.specs.declared.input.SessionInput.{SessionInput}

-- the link that the input of a session leads to
abbrev pub input_link : {L : Type 0} → SessionInput L → L
input_link s = s.link

-- whether the session of an input has failed
abbrev pub input_failed : {L : Type 0} → SessionInput L → Bool
input_failed s = s.failed

-- how many puts and flushes an input refused since its session had failed; the count stands still at 2^64 - 1
abbrev pub input_refused : {L : Type 0} → SessionInput L → ℕ
input_refused s = s.refused

-- the bytes that were sent to the link of an input, where the link tells them
abbrev pub sent_by : {L : Type 0} → (L → LinkState) → SessionInput L → Option (List ℕ)
sent_by state s = (state (input_link s)).sent

-- the faults of an input's link and the input's own refusals together, at most 2^64 - 1
abbrev pub faults_by : {L : Type 0} → (L → LinkState) → SessionInput L → ℕ
faults_by state s = min ((state (input_link s)).faults + input_refused s) (2 ^ 64 - 1)

-- the answer of a link where the sink that leads to it answers this
abbrev pub link_answer : {T : Type 0} → Result T SinkError → Result T LinkError
link_answer (Ok x) = Ok x
link_answer (Err Fault) = Err LinkFault
link_answer (Err SinkWant) = Err LinkWant

-- A call on the input of a session. Where the session has failed it does nothing and answers a fault. Else it does what the
-- link does, with the link's answer, and an error makes the session one that has failed.
pub record OnlySends {L T : Type 0} (state : L → LinkState) (allows : L → List ℕ → List ℕ → List ℕ → Type 0)
    (does : LinkState → LinkState → Result T LinkError → Type 0) (old new : SessionInput L) (result : Result T SinkError) : Type 0 where
  pub refused : IsTrue (input_failed old) → IsErrOf result Fault × (input_link new ≡ input_link old)
  pub reaches : input_failed old ≡ false → does (state (input_link old)) (state (input_link new)) (link_answer result)
  -- so it refuses nothing by itself
  pub same_refused : input_failed old ≡ false → input_refused new ≡ input_refused old
  pub failed : input_failed new ≡ is_err result
  pub same_read : (state (input_link new)).was_read ≡ (state (input_link old)).was_read
  pub same_killed : (state (input_link new)).killed ≡ (state (input_link old)).killed
  pub same_allows : AllowsTheSame (allows (input_link old)) (allows (input_link new))

-- the link of a session
abbrev pub session_link : {L : Type 0} → LocalSolver L → L
session_link s = input_link s.input

-- whether a session has failed
abbrev pub session_failed : {L : Type 0} → LocalSolver L → Bool
session_failed s = input_failed s.input

-- what the link of a session tells
abbrev pub state_by : {L : Type 0} → (L → LinkState) → LocalSolver L → LinkState
state_by state s = state (session_link s)

-- A call on a session that has failed does nothing, and answers `SolverMarkedFailed`. After a call a session has failed exactly
-- where the answer is an error.
pub record Guards {L T : Type 0} (allows : L → List ℕ → List ℕ → List ℕ → Type 0) (old new : LocalSolver L) (result : Result T SolverError)
    : Type 0 where
  pub marked : IsTrue (session_failed old) → IsErrOf result SolverMarkedFailed × (session_link new ≡ session_link old)
  pub failed : session_failed new ≡ is_err result
  pub same_allows : AllowsTheSame (allows (session_link old)) (allows (session_link new))

-- the line that makes a solver keep its models: the option `:produce-models` (SMT-LIB 2.7, chapter 4)
abbrev pub enable_models_text : List ℕ
enable_models_text = codes "(set-option :produce-models true)\n"

-- A starter is asked to start a solver by this command, for a session with it.
pub record StartsSession {L T : Type 0} (old new : StarterState L) (command : Command) (result : Result T SolverError) : Type 0 where
  pub ok : OnOk result (new.commands ≡ add_told old.commands command)
  pub io : IsErrOf result Io → (new.commands ≡ add_told old.commands command) × Rose old.failed_starts new.failed_starts
  pub memory : IsErrOf result Memory → (new.commands ≡ add_told old.commands command) ⊎ (new.commands ≡ old.commands)
  pub only : IfErr result (λ e. (e ≡ Io) ⊎ (e ≡ Memory))
  pub same_returned : new.returned ≡ old.returned
  pub same_link_faults : new.link_faults ≡ old.link_faults
  pub later : old.failed_starts ≤ new.failed_starts
