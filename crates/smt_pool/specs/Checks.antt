-- The question to a solver whether a script has a model: what comes of it, and why nothing does.
use Rattle.std.specs.Prelude.{ℕ, ◌<◌, ◌≤◌, ◌≡◌, ◌⊎◌, ⊤, false, List, [], ◌++◌, length, IfSome}
use Rattle.smt_script.specs.CommandTexts.{check_sat_text}
use Rattle.smt_script.specs.Sink.{Rose}
use Rattle.smt_solve.specs.Answers.{IsNoDecision, StripsTo, decision_word, line_limit}
use Rattle.smt_solve.specs.Link.{LinkState}
use Rattle.smt_solve.specs.Question.{Exchanges, IsNothing, IsPiece, KillsOnly, Refuses, RefusesEnded}
use Rattle.smt_solve.specs.Starter.{Command as SolverCall, StarterState, add_told}
use Rattle.smt_solve.specs.declared.answer.Decision.{Decision}
use Rattle.smt_solve.specs.declared.error.SolverError.{SolverError}
use Rattle.smt_solve.specs.declared.error.SolverError.TheVariants.{Io as IoError, Solver as SolverSays}
use Rattle.smt_solve.specs.declared.error.SolverError.TheVariants.{UnrecognizedSolverOutput as OtherOutput, SolverMarkedFailed}
use Rattle.smt_solve.specs.declared.error.SolverError.TheVariants.{AnswerTooLong as TooLongAnswer, Memory as SolverWant}
use Rattle.law_verdicts.specs.Verdicts.{logic_text, question_of}
use Rattle.smt_pool.specs.declared.check_error.CheckError.{CheckError}
use Rattle.smt_pool.specs.declared.check_error.CheckError.TheVariants.{Start, Session, Memory}
use Rattle.smt_pool.specs.declared.check_error.SessionFault.{SessionFault}
use Rattle.smt_pool.specs.declared.check_error.SessionFault.TheVariants.{Io, Solver, UnrecognizedSolverOutput, AnswerTooLong}

-- what an error of a session that had not failed before becomes as an error of the check
abbrev pub session_error : SolverError → CheckError
session_error IoError = Session Io
session_error (SolverSays message) = Session Solver
session_error (OtherOutput text) = Session UnrecognizedSolverOutput
session_error SolverMarkedFailed = Memory
session_error TooLongAnswer = Session AnswerTooLong
session_error SolverWant = Memory

-- The solver of a link was not killed, where the link tells that.
abbrev pub IsUnkilled : LinkState → Type 0
IsUnkilled s = IfSome s.killed (λ killed. killed ≡ false)

-- Nothing was asked of a link yet: by what it tells these lines were sent, nothing was read, and the solver was not killed.
pub record IsReady (s : LinkState) (lines : List ℕ) : Type 0 where
  pub sent : IfSome s.sent (λ text. text ≡ lines)
  pub was_read : IfSome s.was_read (λ bytes. bytes ≡ [])
  pub spared : IsUnkilled s

-- A link that was ready is ready still, with these lines more.
abbrev pub Lengthens : (old new : LinkState) → (lines : List ℕ) → Type 0
Lengthens old new lines = (text : List ℕ) → IsReady old text → IsReady new (text ++ lines)

-- why lines could not be sent: the link failed, without a kill, or there was no memory
abbrev pub CannotSend : (old new : LinkState) → CheckError → Type 0
CannotSend old new (Session Io) = Rose old.faults new.faults × (new.killed ≡ old.killed)
CannotSend old new Memory = ⊤
CannotSend old new r = ⊥

-- A link was sent this question alone, where it tells that, and read one line, which says the decision and which it may give
-- there. The end of the answers counts as its line feed. The solver was not killed.
pub record IsAnswered (allows : List ℕ → List ℕ → List ℕ → Type 0) (s : LinkState) (question : List ℕ) (d : Decision) : Type 0 where
  pub sent : IfSome s.sent (λ text. text ≡ question)
  pub line : List ℕ
  pub was_read : IfSome s.was_read (λ bytes. bytes ≡ line)
  pub is_line : IsPiece s line
  pub short : length line ≤ line_limit
  pub says : StripsTo line (decision_word d)
  pub allowed : IfSome s.sent (λ text. IfSome s.was_read (λ bytes. allows question [] line))
  pub spared : IsUnkilled s

-- The check failed by an error of this kind, on a link that was ready with these lines and tells this now. The solver was
-- killed only for what it answered.
pub record FailsToAnswer (now : LinkState) (lines : List ℕ) (kind : SessionFault) : Type 0 where
  pub before : LinkState
  pub ready : IsReady before lines
  pub error : SolverError
  pub is_kind : session_error error ≡ Session kind
  pub why : RefusesEnded before now error
      ⊎ Refuses (Exchanges before now check_sat_text) (Exchanges before now check_sat_text) IsNoDecision before now error
  pub kills : KillsOnly IsNothing before now check_sat_text

-- Lines before the check could not be sent to a link that tells this now, and the solver was not killed.
pub record FailsToSendLines (now : LinkState) (kind : SessionFault) : Type 0 where
  pub is_kind : kind ≡ Io
  pub failed : 0 < now.faults
  pub spared : IsUnkilled now

-- Why a script was not decided, on a link that tells this now: the check failed, or lines before it could not be sent.
abbrev pub WhyUndecided : (now : LinkState) → (script : List ℕ) → CheckError → Type 0
WhyUndecided now script Start = ⊥
WhyUndecided now script (Session kind) = FailsToAnswer now (logic_text ++ script) kind ⊎ FailsToSendLines now kind
WhyUndecided now script Memory = ⊤

-- A solver was started by this command, and its link came back, of which this holds.
pub record Returns {L : Type 0} (holds : L → Type 0) (old new : StarterState L) (command : SolverCall) : Type 0 where
  pub link : L
  pub started : new.commands ≡ add_told old.commands command
  pub returned : new.returned ≡ add_told old.returned link
  pub of_link : holds link

-- A solver was started by this command, was sent a script as a question, and decided so. Its link came back.
abbrev pub Decides : {L : Type 0} → (state : L → LinkState) → (allows : List ℕ → List ℕ → List ℕ → Type 0) → (old new : StarterState L) →
    SolverCall → (script : List ℕ) → Decision → Type 0
Decides state allows old new command script d = Returns (λ link. IsAnswered allows (state link) (question_of script) d) old new command

-- Why a link is the reason that there is no verdict; where it has failed, the starter's count of link faults shows it.
abbrev pub FailsOn : {L : Type 0} → (state : L → LinkState) → (old new : StarterState L) → (script : List ℕ) → SessionFault → L → Type 0
FailsOn state old new script kind link =
    WhyUndecided (state link) script (Session kind) × (0 < (state link).faults → Rose old.link_faults new.link_faults)

-- why there is no verdict: the solver did not start, its session failed, or there was no memory
abbrev pub WhyUnchecked : {L : Type 0} → (state : L → LinkState) → (old new : StarterState L) → SolverCall → (script : List ℕ) →
    CheckError → Type 0
WhyUnchecked state old new command script Start = Rose old.failed_starts new.failed_starts
WhyUnchecked state old new command script (Session kind) = Returns (FailsOn state old new script kind) old new command
WhyUnchecked state old new command script Memory = ⊤
