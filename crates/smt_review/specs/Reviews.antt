-- What a review of two conditions finds, and why it finds nothing.
use Rattle.std.specs.Prelude.{◌≡◌, ◌⊎◌, ◌<◌, ℕ, ⊤, List, [], ◌∷◌, Option, Some}
use Rattle.std.specs.Rc.{rc_str_bytes}
use Rattle.law_terms.specs.Faults.{Fault, EmptyEnum, EncodePatternFailed, EncodeStringFailed, EnumMissingMember, first_fault}
use Rattle.law_terms.specs.Plain.{PlainTerm}
use Rattle.law_terms.specs.TypeValues.{Enums}
use Rattle.law_folding.specs.Builder.{folding}
use Rattle.law_lines.specs.Text.{text}
use Rattle.law_theorem.specs.Conditions.{AreConditions}
use Rattle.smt_script.specs.Sink.{Rose}
use Rattle.smt_term.specs.Entities.{bytes_of_id, bytes_of_type}
use Rattle.smt_term.specs.PatternView.{plain_ord_pattern}
use Rattle.smt_encode.specs.declared.error.EncodeError.{EncodeError}
use Rattle.smt_encode.specs.declared.error.EncodeError.TheVariants.{EmptyEnum as EnumRefused, EncodeStringFailed as StringRefused}
use Rattle.smt_encode.specs.declared.error.EncodeError.TheVariants.{EncodePatternFailed as PatternRefused}
use Rattle.smt_encode.specs.declared.error.EncodeError.TheVariants.{EnumMissingMember as EntityRefused}
use Rattle.smt_solve.specs.Link.{LinkState}
use Rattle.smt_solve.specs.Question.{Exchanges, Spares}
use Rattle.smt_solve.specs.Starter.{add_told}
use Rattle.smt_solve.specs.declared.answer.Decision.{Decision}
use Rattle.smt_solve.specs.declared.answer.Decision.TheVariants as decided
use Rattle.smt_solve.specs.declared.error.SolverError.{SolverError}
use Rattle.smt_solve.specs.declared.error.SolverError.TheVariants.{Memory as SolverWant}
use Rattle.law_verdicts.specs.Honesty.{IsHonest}
use Rattle.law_verdicts.specs.Idle.{AnswersQuestion, TellsAll}
use Rattle.law_verdicts.specs.Verdicts.{logic_text}
use Rattle.smt_pool.specs.Asked.{FailsAtCheck, FailsBeforeCheck}
use Rattle.smt_pool.specs.Pool.{PoolState, GivesUp, HandsOut, Keeps, WhyNotAcquired}
use Rattle.smt_pool.specs.Pooled.{pooled_link, pooled_state}
use Rattle.smt_pool.specs.declared.error.SolverPoolError.TheVariants.{Memory as PoolWant}
use Rattle.smt_pool.specs.declared.pooled.PooledSolver.{PooledSolver}
use Rattle.smt_review.specs.Differences.{AreRelated, difference_by}
use Rattle.smt_review.specs.declared.error.ReviewError.{ReviewError}
use Rattle.smt_review.specs.declared.error.ReviewError.TheVariants.{Encode, Pool, Solver, Memory}
use Rattle.smt_review.specs.declared.finding.Finding.{Finding}
use Rattle.smt_review.specs.declared.finding.Finding.TheVariants.{Holds, Fails, Unknown}
use Rattle.smt_review.specs.declared.relation.Relation.{Relation}

-- what a solver decides of the difference where this is found: the relation holds where the difference is never true
abbrev pub decision_for : Finding → Decision
decision_for Holds = decided.Unsat
decision_for Fails = decided.Sat
decision_for Unknown = decided.Unknown

-- the difference of two conditions, as it is built
abbrev pub difference_of : Relation → PlainTerm → PlainTerm → PlainTerm
difference_of relation t u = difference_by folding relation t u

-- the text of the difference of two conditions, by which a solver is asked
abbrev pub text_for : Enums → Relation → PlainTerm → PlainTerm → List ℕ
text_for enums relation t u = text enums (difference_of relation t u ∷ [])

-- The difference of two conditions is a condition, so that its text says when it is true.
abbrev pub IsAskable : Enums → Relation → PlainTerm → PlainTerm → Type 0
IsAskable enums relation t u = AreConditions enums (difference_of relation t u ∷ [])

-- ---- why the difference has no script

-- The error of an encoder names this first fault. No other comes of a typed term, a new encoder and a sink in memory, but want of
-- memory, which is an error of its own.
abbrev pub NamesFault : Option Fault → EncodeError → Type 0
NamesFault fault (EntityRefused e) = fault ≡ Some (EnumMissingMember (bytes_of_type e.ety) (bytes_of_id e.id))
NamesFault fault (StringRefused text) = fault ≡ Some (EncodeStringFailed (rc_str_bytes text))
NamesFault fault (PatternRefused p) = fault ≡ Some (EncodePatternFailed (plain_ord_pattern p))
NamesFault fault (EnumRefused ety) = fault ≡ Some (EmptyEnum (bytes_of_type ety))
NamesFault fault e = ⊥

-- Why the difference of two conditions is not written: it has a first fault, or there is no memory.
abbrev pub WhyUnwritten : Option Fault → ReviewError → Type 0
WhyUnwritten fault (Encode e) = NamesFault fault e
WhyUnwritten fault (Pool e) = ⊥
WhyUnwritten fault (Solver e) = ⊥
WhyUnwritten fault Memory = ⊤

-- ---- why a session does not answer

-- Why a session failed, by what its link told before and tells now: lines could not be sent, or the check failed. Want of memory is an
-- error of its own.
abbrev pub WhyFailed : (before now : LinkState) → (script : List ℕ) → SolverError → Type 0
WhyFailed before now script SolverWant = ⊥
WhyFailed before now script e = FailsBeforeCheck before now e ⊎ FailsAtCheck before now script e

-- Why a session found nothing about two conditions, by what its link told before and tells now: the difference has a first fault, and
-- the link was sent the logic alone; or the session failed.
abbrev pub WhyNothingFound : Enums → Relation → PlainTerm → PlainTerm → ReviewError → (before now : LinkState) → Type 0
WhyNothingFound enums relation t u (Encode e) before now =
    NamesFault (first_fault enums (difference_of relation t u ∷ [])) e × Exchanges before now logic_text [] × Spares before now
WhyNothingFound enums relation t u (Pool e) before now = ⊥
WhyNothingFound enums relation t u (Solver e) before now = WhyFailed before now (text_for enums relation t u) e
WhyNothingFound enums relation t u Memory before now = ⊤

-- ---- what a pool shows of a review

module _ {L : Type 0} (state : L → LinkState) (allows : L → List ℕ → List ℕ → List ℕ → Type 0) (old new : PoolState L) where
  -- A session of a pool was out: it was handed out as `first` and came back as `last`. The pool keeps it, or gave its link back.
  pub record WasOut (first last : PooledSolver L) : Type 0 where
    pub between : PoolState L
    pub out : HandsOut state old between first
    pub back : Keeps state allows between new last ⊎ GivesUp state between new last

  -- This was found: a session of the pool was sent `(set-logic ALL)`, the text of the difference and `(check-sat)`, and answered by the
  -- one line that says so. Where the links of the starter are honest, which allows `allowed`, and this one told all, `Holds` may be
  -- believed: the relation holds in every interpretation of the conditions.
  pub record Finds (allowed : List ℕ → List ℕ → List ℕ → Type 0) (enums : Enums) (relation : Relation) (t u : PlainTerm) (finding : Finding)
      : Type 0 where
    pub askable : IsAskable enums relation t u
    pub first : PooledSolver L
    pub last : PooledSolver L
    pub was_out : WasOut first last
    pub answers :
        AnswersQuestion (allows (pooled_link first)) (pooled_state state first) (pooled_state state last) (text_for enums relation t u)
        (decision_for finding)
    pub believed : finding ≡ Holds → IsHonest allowed → TellsAll (pooled_state state first) → AreRelated enums relation t u

  -- A session was handed out, and its link came back to the starter, which shows it where the link has failed. This is said of what the
  -- link told before and tells now.
  pub record GivesLinkBack (Why : (before now : LinkState) → Type 0) : Type 0 where
    pub between : PoolState L
    pub session : PooledSolver L
    pub out : HandsOut state old between session
    pub link : L
    pub why : Why (pooled_state state session) (state link)
    pub returned : new.starter.returned ≡ add_told between.starter.returned link
    pub not_kept : new.idle ≡ between.idle
    pub shown : 0 < (state link).faults → Rose old.starter.link_faults new.starter.link_faults

  -- Why nothing was found: the difference has a first fault, the pool handed out no session, the session failed, or there was no memory.
  abbrev pub WhyNotReviewed : Enums → Relation → PlainTerm → PlainTerm → ReviewError → Type 0
  WhyNotReviewed enums relation t u (Encode e) = GivesLinkBack (WhyNothingFound enums relation t u (Encode e))
  WhyNotReviewed enums relation t u (Pool PoolWant) = ⊥
  WhyNotReviewed enums relation t u (Pool e) = WhyNotAcquired old new e
  WhyNotReviewed enums relation t u (Solver e) = GivesLinkBack (WhyNothingFound enums relation t u (Solver e))
  WhyNotReviewed enums relation t u Memory = ⊤
