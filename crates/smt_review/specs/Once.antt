-- A review by a solver that is started for it: what it finds, and why it finds nothing.
use Rattle.std.specs.Prelude.{ℕ, ◌<◌, ◌≡◌, ◌⊎◌, ⊤, List, [], ◌∷◌}
use Rattle.law_terms.specs.Faults.{first_fault}
use Rattle.law_terms.specs.Plain.{PlainTerm}
use Rattle.law_terms.specs.TypeValues.{Enums}
use Rattle.smt_script.specs.CommandTexts.{reset_text}
use Rattle.smt_script.specs.Sink.{Rose}
use Rattle.smt_solve.specs.Link.{AllowsOnly, IsUnused, LinkState}
use Rattle.smt_solve.specs.Question.{BeginsExchange, Exchanges, Spares}
use Rattle.smt_solve.specs.Starter.{Command as SolverCall, StarterState}
use Rattle.smt_solve.specs.declared.answer.Decision.{Decision}
use Rattle.smt_solve.specs.declared.error.SolverError.{SolverError}
use Rattle.law_verdicts.specs.Idle.{AnswersQuestion}
use Rattle.law_verdicts.specs.Verdicts.{logic_text}
use Rattle.smt_pool.specs.Checks.{Returns}
use Rattle.smt_pool.specs.declared.check_error.SessionFault.{SessionFault}
use Rattle.smt_runs.specs.Jobs.{IsFaultOf}
use Rattle.smt_runs.specs.declared.refusal.Refusal.{Refusal}
use Rattle.smt_runs.specs.declared.refusal.Refusal.TheVariants.{Encode, Start, Session, Memory}
use Rattle.smt_review.specs.Refused.{session_kind}
use Rattle.smt_review.specs.Reviews.{IsAskable, WhyFailed, decision_for, difference_of, text_for}
use Rattle.smt_review.specs.declared.finding.Finding.{Finding}
use Rattle.smt_review.specs.declared.relation.Relation.{Relation}

-- Behind its answer a link was sent `(reset)` (SMT-LIB 2.7, chapter 4), or it failed over that. The solver was not killed.
pub record IsResetAfter (asked now : LinkState) : Type 0 where
  pub sent : Exchanges asked now reset_text [] ⊎ (BeginsExchange asked now reset_text × Rose asked.faults now.faults)
  pub spared : Spares asked now

-- A link was asked one question, which it answered by one line that decides so, and then it was reset.
pub record AnswersOnce (allows : List ℕ → List ℕ → List ℕ → Type 0) (before now : LinkState) (script : List ℕ) (d : Decision) : Type 0 where
  pub asked : LinkState
  pub answers : AnswersQuestion allows before asked script d
  pub reset : IsResetAfter asked now

module _ {L : Type 0} (state : L → LinkState) (enums : Enums) (relation : Relation) (t u : PlainTerm) where
  -- A link was started, which allows only what its starter did. It was sent `(set-logic ALL)`, the text of the difference,
  -- `(check-sat)` and `(reset)`, and answered by the one line that says this finding.
  pub record IsReviewedBy (allows : L → List ℕ → List ℕ → List ℕ → Type 0) (allowed : List ℕ → List ℕ → List ℕ → Type 0) (finding : Finding)
      (link : L) : Type 0 where
    pub began : L
    pub unused : IsUnused (state began)
    pub only : AllowsOnly (allows began) allowed
    pub askable : IsAskable enums relation t u
    pub answers : AnswersOnce (allows began) (state began) (state link) (text_for enums relation t u) (decision_for finding)

  -- A link was started and sent the logic alone, since the difference has a fault. The solver was not killed.
  pub record IsNotAskedBy (link : L) : Type 0 where
    pub began : L
    pub unused : IsUnused (state began)
    pub sent : Exchanges (state began) (state link) logic_text []
    pub spared : Spares (state began) (state link)

  -- A link was started, and its session failed by an error of this kind. The starter shows it where the link has failed.
  pub record FailsReview (shown : Type 0) (kind : SessionFault) (link : L) : Type 0 where
    pub began : L
    pub unused : IsUnused (state began)
    pub error : SolverError
    pub is_kind : session_kind error ≡ Session kind
    pub why : WhyFailed (state began) (state link) (text_for enums relation t u) error
    pub rose : 0 < (state link).faults → shown

-- A solver was started by this command, this was found of the relation by its one line, and its link came back.
abbrev pub ReviewsOnce : {L : Type 0} → (L → LinkState) → (L → List ℕ → List ℕ → List ℕ → Type 0) →
    (allowed : List ℕ → List ℕ → List ℕ → Type 0) → (old new : StarterState L) → SolverCall → Enums → Relation → (t u : PlainTerm) →
    Finding → Type 0
ReviewsOnce state allows allowed old new call enums relation t u finding =
    Returns (IsReviewedBy state enums relation t u allows allowed finding) old new call

-- Why nothing was found: the difference has a first fault of this kind, the solver did not start, its session failed, or there was no
-- memory. Where a solver was started its link came back.
abbrev pub WhyNotReviewedOnce : {L : Type 0} → (L → LinkState) → (old new : StarterState L) → SolverCall → Enums → Relation →
    (t u : PlainTerm) → Refusal → Type 0
WhyNotReviewedOnce state old new call enums relation t u (Encode kind) =
    IsFaultOf kind (first_fault enums (difference_of relation t u ∷ [])) × Returns (IsNotAskedBy state enums relation t u) old new call
WhyNotReviewedOnce state old new call enums relation t u Start = Rose old.failed_starts new.failed_starts
WhyNotReviewedOnce state old new call enums relation t u (Session kind) =
    Returns (FailsReview state enums relation t u (Rose old.link_faults new.link_faults) kind) old new call
WhyNotReviewedOnce state old new call enums relation t u Memory = ⊤
WhyNotReviewedOnce state old new call enums relation t u refusal = ⊥
