-- A dialogue in a session: what its calls leave of what a link tells, and why there is no answer.
use Rattle.std.specs.Prelude.{◌≡◌, ◌⊎◌, ⊤, ℕ, List, [], ◌∷◌, ◌++◌}
use Rattle.smt_script.specs.CommandTexts.{check_sat_text}
use Rattle.smt_solve.specs.Answers.{IsNoDecision}
use Rattle.smt_solve.specs.Link.{LinkState}
use Rattle.smt_solve.specs.Question.{Exchanges, IsNothing, KillsOnly, Refuses, RefusesEnded}
use Rattle.smt_solve.specs.declared.answer.Decision.{Decision}
use Rattle.smt_solve.specs.declared.error.SolverError.{SolverError}
use Rattle.law_verdicts.specs.Dialogues.{AnsweredCheck, GaveAllowed, HasAnswered}
use Rattle.smt_pool.specs.Checks.{FailsToSendLines, session_error}
use Rattle.smt_pool.specs.declared.check_error.CheckError.{CheckError}
use Rattle.smt_pool.specs.declared.check_error.CheckError.TheVariants.{Start, Session, Memory}
use Rattle.smt_pool.specs.declared.check_error.SessionFault.{SessionFault}

-- A link has answered the same checks as before, and these lines were sent behind what stood behind the last of them.
abbrev pub TakesMore : (old new : LinkState) → (lines : List ℕ) → Type 0
TakesMore old new lines =
    (checks : List AnsweredCheck) (rest : List ℕ) → HasAnswered old checks rest → HasAnswered new checks (rest ++ lines)

-- What a link gave is as allowed after a call as before it.
abbrev pub StaysAllowed : (allows : List ℕ → List ℕ → List ℕ → Type 0) → (old new : LinkState) → Type 0
StaysAllowed allows old new = (checks : List AnsweredCheck) → GaveAllowed allows old checks → GaveAllowed allows new checks

-- The check of these lines, which was answered by this line and decides so, stands behind the others.
abbrev pub with_check : List AnsweredCheck → (lines answer : List ℕ) → Decision → List AnsweredCheck
with_check checks lines answer d = checks ++ (record { lines = lines; answer = answer; decision = d }) ∷ []

-- A link answered one check more, of these lines behind what was sent since the last: its line decides so, is allowed there, and is
-- the only one that was read.
abbrev pub AnswersNext : (allows : List ℕ → List ℕ → List ℕ → Type 0) → (old new : LinkState) → (lines : List ℕ) → Decision → Type 0
AnswersNext allows old new lines d =
    (checks : List AnsweredCheck) (rest : List ℕ) → HasAnswered old checks rest → GaveAllowed allows old checks
    → (answer : List ℕ) × HasAnswered new (with_check checks (rest ++ lines) answer d) []
    × GaveAllowed allows new (with_check checks (rest ++ lines) answer d)

-- Why lines of a dialogue could not be sent, on a link that tells this now: it has failed, without a kill, or there was no memory.
abbrev pub WhyUnsent : (now : LinkState) → CheckError → Type 0
WhyUnsent now Start = ⊥
WhyUnsent now (Session kind) = FailsToSendLines now kind
WhyUnsent now Memory = ⊤

-- The next check failed by an error of this kind, on a link that had answered these checks, was sent these lines behind them, and
-- tells this now. The solver was killed only for what it answered.
pub record FailsBehind (now : LinkState) (checks : List AnsweredCheck) (lines : List ℕ) (kind : SessionFault) : Type 0 where
  pub before : LinkState
  pub answered : HasAnswered before checks lines
  pub error : SolverError
  pub is_kind : session_error error ≡ Session kind
  pub why : RefusesEnded before now error
      ⊎ Refuses (Exchanges before now check_sat_text) (Exchanges before now check_sat_text) IsNoDecision before now error
  pub kills : KillsOnly IsNothing before now check_sat_text

-- Why the next check has no answer, behind these checks and lines, on a link that tells this now: it failed, or lines before it
-- could not be sent.
abbrev pub WhyUnanswered : (now : LinkState) → (checks : List AnsweredCheck) → (lines : List ℕ) → CheckError → Type 0
WhyUnanswered now checks lines Start = ⊥
WhyUnanswered now checks lines (Session kind) = FailsBehind now checks lines kind ⊎ FailsToSendLines now kind
WhyUnanswered now checks lines Memory = ⊤

-- Why a link that had answered checks does not answer the next one, of these lines behind what was sent since the last.
abbrev pub RefusesNext : (old new : LinkState) → (lines : List ℕ) → CheckError → Type 0
RefusesNext old new lines e =
    (checks : List AnsweredCheck) (rest : List ℕ) → HasAnswered old checks rest → WhyUnanswered new checks (rest ++ lines) e
