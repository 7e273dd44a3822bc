-- What a solver that is started for a review shows of it.
use Rattle.std.proofs.Common.{◌≡◌, ◌<◌, ℕ, List, [], ◌∷◌, Option, Ok, Err, Result, IsErrAnd, refl, sym, ap, ◌∙◌, subst, inl, inr}
use Rattle.std.specs.Prelude.{IfErr}
use Rattle.law_terms.specs.Formed.{IsFormed}
use Rattle.law_terms.specs.Plain.{BoolType, PlainTerm}
use Rattle.law_terms.specs.Typing.{Typed}
use Rattle.law_terms.specs.TypeValues.{Enums, AreEnums}
use Rattle.smt_term.specs.Entities.{bytes_of_id, bytes_of_type}
use Rattle.smt_term.specs.PatternView.{plain_ord_pattern}
use Rattle.std.specs.Rc.{rc_str_bytes}
use Rattle.smt_script.specs.CommandTexts.{reset_text}
use Rattle.smt_script.specs.Sink.{Rose}
use Rattle.smt_encode.specs.declared.error.EncodeError.{EncodeError}
use Rattle.smt_encode.specs.declared.error.EncodeError.TheVariants.{EmptyEnum as EnumRefused, EncodeStringFailed as StringRefused, EncodePatternFailed as PatternRefused, EnumMissingMember as EntityRefused}
use Rattle.smt_solve.specs.Link.{AllowsOnly, IsUnused, LinkState}
use Rattle.smt_solve.specs.Question.{SendsCommand}
use Rattle.smt_solve.specs.Session.{StartsSession}
use Rattle.smt_solve.specs.Starter.{Command as SolverCall, Finishes, StarterState, add_told}
use Rattle.smt_solve.specs.declared.error.SolverError.{SolverError}
use Rattle.smt_solve.specs.declared.error.SolverError.TheVariants.{Io as IoError, Solver as SolverSays, UnrecognizedSolverOutput as OtherOutput, SolverMarkedFailed, AnswerTooLong as TooLongAnswer, Memory as SolverWant}
use Rattle.law_verdicts.specs.Honesty.{IsHonest}
use Rattle.law_verdicts.specs.Idle.{AnswersQuestion, TellsAll}
use Rattle.law_verdicts.proofs.Idle.{idle_links_are_believed, unused_links_are_idle}
use Rattle.law_verdicts.proofs.InHand.{honesty_is_handed_on}
use Rattle.smt_pool.proofs.Asking.{counted_back}
use Rattle.smt_pool.specs.Checks.{Returns}
use Rattle.smt_pool.specs.declared.check_error.SessionFault.{SessionFault}
use Rattle.smt_pool.specs.declared.check_error.SessionFault.TheVariants.{Io, Solver as SaysError, UnrecognizedSolverOutput, AnswerTooLong}
use Rattle.smt_runs.specs.Runs.{Fails}
use Rattle.smt_runs.specs.declared.refusal.Refusal.{Refusal}
use Rattle.smt_runs.specs.declared.refusal.Refusal.TheVariants.{Encode as NoScript, Start, Session, Memory as Want}
use Rattle.smt_review.specs.Differences.{AreRelated}
use Rattle.smt_review.specs.Once.{AnswersOnce, FailsReview, IsResetAfter, IsReviewedBy, ReviewsOnce, WhyNotReviewedOnce}
use Rattle.smt_review.specs.Refused.{review_refusal, session_kind}
use Rattle.smt_review.specs.Reviews.{IsAskable, WhyNothingFound, WhyFailed, decision_for, difference_of, text_for}
use Rattle.smt_review.specs.declared.error.ReviewError.{ReviewError}
use Rattle.smt_review.specs.declared.error.ReviewError.TheVariants.{Encode, Pool, Solver, Memory}
use Rattle.smt_review.specs.declared.finding.Finding.{Finding}
use Rattle.smt_review.specs.declared.finding.Finding.TheVariants.{Holds}
use Rattle.smt_review.specs.declared.relation.Relation.{Relation}
use Rattle.smt_review.proofs.Telling.{differences_tell}

-- ---- the reset

pub reset_sent : (asked now : LinkState) → SendsCommand {T = Unit {0}} asked now reset_text (Ok tt) → IsResetAfter asked now
reset_sent asked now s = record { sent = inl s.ok; spared = s.spared }

-- the link failed over it
pub reset_failed : (asked now : LinkState) (e : SolverError) → (e ≡ SolverWant → ⊥) → SendsCommand {T = Unit {0}} asked now reset_text (Err e) → IsResetAfter asked now
reset_failed asked now IoError n s = record { sent = inr (s.begun, s.err); spared = s.spared }
reset_failed asked now (SolverSays message) n s = absurd s.err
reset_failed asked now (OtherOutput text) n s = absurd s.err
reset_failed asked now SolverMarkedFailed n s = absurd s.err
reset_failed asked now TooLongAnswer n s = absurd s.err
reset_failed asked now SolverWant n s = absurd (n refl)

-- ---- with a starter

module _ {L T : Type 0} (state : L → LinkState) (old between new : StarterState L) (call : SolverCall) (enums : Enums) (r : Relation) (t u : PlainTerm) (began link came : L) (x : T)
    (starts : StartsSession {T = T} old between call (Ok x)) (same : came ≡ link) (finishes : Finishes {T = Unit {0}} between new came (state came).faults (Ok tt)) (unused : IsUnused (state began)) where
  -- the link came back
  back : Finishes {T = Unit {0}} between new link (state link).faults (Ok tt)
  back = subst (λ (l : L). Finishes {T = Unit {0}} between new l (state l).faults (Ok tt)) same finishes

  returns : (holds : L → Type 0) → holds link → Returns holds old new call
  returns holds h = record {
    link = link;
    started = back.same_commands ∙ starts.ok;
    returned = back.ok ∙ ap (λ (o : Option (List L)). add_told o link) starts.same_returned;
    of_link = h;
  }

  pub once_reviewed : (allows : L → List ℕ → List ℕ → List ℕ → Type 0) (allowed : List ℕ → List ℕ → List ℕ → Type 0) (finding : Finding) → AllowsOnly (allows began) allowed → IsAskable enums r t u
      → AnswersOnce (allows began) (state began) (state link) (text_for enums r t u) (decision_for finding) → ReviewsOnce state allows allowed old new call enums r t u finding
  once_reviewed allows allowed finding only askable answers =
      returns (IsReviewedBy state enums r t u allows allowed finding) (record { began = began; unused = unused; only = only; askable = askable; answers = answers })

  shown : 0 < (state link).faults → Rose old.link_faults new.link_faults
  shown = counted_back (state link).faults old.link_faults between.link_faults new.link_faults starts.same_link_faults back.faulty

  failed_as : (kind : SessionFault) (e : SolverError) → session_kind e ≡ Session kind → WhyFailed (state began) (state link) (text_for enums r t u) e → WhyNotReviewedOnce state old new call enums r t u (Session kind)
  failed_as kind e is why =
      returns (FailsReview state enums r t u (Rose old.link_faults new.link_faults) kind) (record { began = began; unused = unused; error = e; is_kind = is; why = why; rose = shown })

  session_failed : (e : SolverError) → WhyFailed (state began) (state link) (text_for enums r t u) e → WhyNotReviewedOnce state old new call enums r t u (session_kind e)
  session_failed IoError why = failed_as Io IoError refl why
  session_failed (SolverSays message) why = failed_as SaysError (SolverSays message) refl why
  session_failed (OtherOutput text) why = failed_as UnrecognizedSolverOutput (OtherOutput text) refl why
  session_failed SolverMarkedFailed why = tt
  session_failed TooLongAnswer why = failed_as AnswerTooLong TooLongAnswer refl why
  session_failed SolverWant why = tt

  unwritten : (e : EncodeError) → WhyNothingFound enums r t u (Encode e) (state began) (state link) → WhyNotReviewedOnce state old new call enums r t u (review_refusal (Encode e))
  unwritten (EntityRefused e) h = ((bytes_of_type e.ety, bytes_of_id e.id, h.0), returns _ (record { began = began; unused = unused; sent = h.1; spared = h.2 }))
  unwritten (StringRefused text) h = ((rc_str_bytes text, h.0), returns _ (record { began = began; unused = unused; sent = h.1; spared = h.2 }))
  unwritten (PatternRefused p) h = ((plain_ord_pattern p, h.0), returns _ (record { began = began; unused = unused; sent = h.1; spared = h.2 }))
  unwritten (EnumRefused ety) h = ((bytes_of_type ety, h.0), returns _ (record { began = began; unused = unused; sent = h.1; spared = h.2 }))
  unwritten e h = tt

  why_not : (e : ReviewError) → WhyNothingFound enums r t u e (state began) (state link) → WhyNotReviewedOnce state old new call enums r t u (review_refusal e)
  why_not (Encode e) h = unwritten e h
  why_not (Pool e) h = absurd h
  why_not (Solver e) h = session_failed e h
  why_not Memory h = tt

  pub not_reviewed : {U : Type 0} (result : Result U Refusal) (e : ReviewError) → IsErrAnd result (λ y. y ≡ review_refusal e) → WhyNothingFound enums r t u e (state began) (state link) → IfErr result (WhyNotReviewedOnce state old new call enums r t u)
  not_reviewed (Ok y) e is why = tt
  not_reviewed (Err y) e is why = subst (λ (z : Refusal). WhyNotReviewedOnce state old new call enums r t u z) (sym is) (why_not e why)

-- what failed of the source and the sink: nothing
pub once_failed : {L : Type 0} (state : L → LinkState) (old new : StarterState L) (call : SolverCall) (enums : Enums) (r : Relation) (t u : PlainTerm) (source_failed sink_failed : Type 0) (why : Refusal) → WhyNotReviewedOnce state old new call enums r t u why → Fails source_failed sink_failed why
once_failed state old new call enums r t u source_failed sink_failed (NoScript kind) h = tt
once_failed state old new call enums r t u source_failed sink_failed Start h = tt
once_failed state old new call enums r t u source_failed sink_failed (Session kind) h = tt
once_failed state old new call enums r t u source_failed sink_failed Want h = tt
once_failed state old new call enums r t u source_failed sink_failed why h = absurd h

-- ---- belief

-- Where the starter is honest and its links tell all, what a link answered may be believed.
pub once_believed : {L : Type 0} (state : L → LinkState) (allows : L → List ℕ → List ℕ → List ℕ → Type 0) (allowed : List ℕ → List ℕ → List ℕ → Type 0) (enums : Enums) (r : Relation) (t u : PlainTerm) (finding : Finding) (link : L) → AreEnums enums → Typed t BoolType → Typed u BoolType → IsFormed t → IsFormed u
    → IsReviewedBy state enums r t u allows allowed finding link → ((l : L) → TellsAll (state l)) → IsHonest allowed → finding ≡ Holds → AreRelated enums r t u
once_believed state allows allowed enums r t u finding link good ht hu ft fu by tells honest is =
    differences_tell.told enums r t u ht hu ft fu
    (idle_links_are_believed (allows by.began) enums (difference_of r t u ∷ []) (state by.began) by.answers.asked good by.askable (honesty_is_handed_on (allows by.began) allowed by.only honest) (unused_links_are_idle (state by.began) by.unused) (tells by.began)
    (subst (λ (f : Finding). AnswersQuestion (allows by.began) (state by.began) by.answers.asked (text_for enums r t u) (decision_for f)) is by.answers.answers))

-- ---- exits

-- what holds of an error holds of it where it was matched
pub by_was : {T E : Type 0} (P : E → Type 0) (o : Result T E) (e : E) → o ≡ Err e → IfErr o P → P e
by_was P (Ok y) e was h = absurd cc
by_was P (Err x) e was h =
    let same : x ≡ e = cc in
    subst P same h
