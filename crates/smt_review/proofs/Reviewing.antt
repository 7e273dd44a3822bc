-- What a pool shows of a review, and what a caller keeps of it.
use Rattle.std.proofs.Common.{◌≡◌, ◌⊎◌, ℕ, Bool, true, false, List, [], ◌∷◌, ◌++◌, Some, Ok, Err, Result, sym, ap, ◌∙◌, subst, inl, inr, arith}
use Rattle.std.proofs.lemmas.List.Elements.{All-nil, All-pop, All-push, All-same, All-weaker}
use Rattle.std.specs.Prelude.{IfErr, IfOk, OnOk, is_err}
use Rattle.law_terms.specs.Formed.{IsFormed}
use Rattle.law_terms.specs.Plain.{BoolType, PlainTerm}
use Rattle.law_terms.specs.Typing.{Typed}
use Rattle.law_terms.specs.TypeValues.{Enums, AreEnums}
use Rattle.smt_script.specs.Sink.{Rose}
use Rattle.smt_solve.specs.Link.{AllowsOnly, AllowsTheSame, LinkState}
use Rattle.smt_solve.specs.Session.{session_link, state_by}
use Rattle.smt_solve.specs.declared.session.LocalSolver.{LocalSolver}
use Rattle.law_verdicts.proofs.Idle.{asked_links_are_idle_again, idle_links_are_believed, unused_links_are_idle}
use Rattle.law_verdicts.proofs.InHand.{honesty_is_handed_on}
use Rattle.law_verdicts.specs.Honesty.{IsHonest}
use Rattle.law_verdicts.specs.Idle.{AnswersQuestion, TellsAll}
use Rattle.smt_pool.specs.Pool.{PoolState, GivesUp, HandsOut, Keeps, TakesBack}
use Rattle.smt_pool.specs.Pooled.{pooled_failed, pooled_link, pooled_session, pooled_state}
use Rattle.smt_pool.specs.Sessions.{AreHonest, AreUnused, IsStarted}
use Rattle.smt_pool.specs.declared.error.SolverPoolError.{SolverPoolError}
use Rattle.smt_pool.specs.declared.pooled.PooledSolver.{PooledSolver}
use Rattle.smt_review.specs.Differences.{AreRelated}
use Rattle.smt_review.specs.Reviews.{Finds, GivesLinkBack, IsAskable, WhyNotReviewed, WhyNothingFound, decision_for, difference_of, text_for}
use Rattle.smt_review.specs.Sessions.{AreIdleSessions, IsIdleSession, MayBeAskedAgain, UnusedSessionsAreIdle}
use Rattle.smt_review.specs.declared.error.ReviewError.{ReviewError}
use Rattle.smt_review.specs.declared.error.ReviewError.TheVariants.{Encode, Pool, Solver, Memory}
use Rattle.smt_review.specs.declared.finding.Finding.{Finding}
use Rattle.smt_review.specs.declared.finding.Finding.TheVariants.{Holds}
use Rattle.smt_review.specs.declared.relation.Relation.{Relation}
use Rattle.smt_review.proofs.Telling.{differences_tell}

not_both : (b : Bool) → b ≡ true → b ≡ false → ⊥
not_both b p q = cc

-- what comes back with this answer
pub back_by : {K G : Type 0} (b : Bool) (r : Result Bool SolverPoolError) → r ≡ Ok b → (r ≡ Ok true → K) → (r ≡ Ok false → G) → K ⊎ G
back_by true r is kept given = inl (kept is)
back_by false r is kept given = inr (given is)

rose_as : (a b c : ℕ) → b ≡ a → Rose b c → Rose a c
rose_as a b c same h = subst (λ (x : ℕ). Rose x c) same h

module _ {L : Type 0} (state : L → LinkState) (allows : L → List ℕ → List ℕ → List ℕ → Type 0) where
  -- ---- before the question

  started_idle : (allowed : List ℕ → List ℕ → List ℕ → Type 0) (s : LocalSolver L) → IsStarted state s → AllowsOnly (allows (session_link s)) allowed → IsIdleSession state allows allowed s
  started_idle allowed s h only = record { link = unused_links_are_idle (state_by state s) h.unused; honest = λ g. honesty_is_handed_on (allows (session_link s)) allowed only g }

  pub out_idle : (allowed : List ℕ → List ℕ → List ℕ → Type 0) (old between : PoolState L) (first : PooledSolver L) → AreIdleSessions state allows allowed old.idle → HandsOut state old between first
      → (old.idle ≡ [] → AllowsOnly (allows (pooled_link first)) allowed) → AreIdleSessions state allows allowed between.idle × IsIdleSession state allows allowed (pooled_session first)
  out_idle allowed old between first idle out only = elim out.taken [
    | inl h ↦ All-pop (IsIdleSession state allows allowed) old.idle between.idle (Some (pooled_session first)) h.last idle
    | inr h ↦ (All-same (IsIdleSession state allows allowed) between.idle [] h.still_none (All-nil (IsIdleSession state allows allowed)), started_idle allowed (pooled_session first) h.started (only h.none_idle))
  ]

  lasting : (allowed now : List ℕ → List ℕ → List ℕ → Type 0) → AllowsTheSame allowed now → (s : LocalSolver L) → IsIdleSession state allows allowed s → IsIdleSession state allows now s
  lasting allowed now same s h = record { link = h.link; honest = λ g. h.honest (honesty_is_handed_on allowed now same.there g) }

  pub all_lasting : (allowed now : List ℕ → List ℕ → List ℕ → Type 0) → AllowsTheSame allowed now → (sessions : List (LocalSolver L)) → AreIdleSessions state allows allowed sessions → AreIdleSessions state allows now sessions
  all_lasting allowed now same sessions h = All-weaker (IsIdleSession state allows allowed) (IsIdleSession state allows now) (lasting allowed now same) sessions h

  -- each of the sessions was just started, and allows what the starter did
  both_idle : (allowed : List ℕ → List ℕ → List ℕ → Type 0) (sessions : List (LocalSolver L)) → AreUnused state sessions → AreHonest allows allowed sessions → AreIdleSessions state allows allowed sessions
  both_idle allowed sessions unused honest = λ k d l. started_idle allowed _ (unused k d l) (honest k d l)

  pub unused_sessions_are_idle : (first allowed : List ℕ → List ℕ → List ℕ → Type 0) (sessions : List (LocalSolver L)) → UnusedSessionsAreIdle state allows first allowed sessions
  unused_sessions_are_idle first allowed sessions same unused honest = all_lasting first allowed same sessions (both_idle first sessions unused honest)

  -- ---- behind it

  module _ (enums : Enums) (r : Relation) (t u : PlainTerm) (good : AreEnums enums) (ht : Typed t BoolType) (hu : Typed u BoolType) (ft : IsFormed t) (fu : IsFormed u)
      (allowed now : List ℕ → List ℕ → List ℕ → Type 0) (old between new : PoolState L) (first last : PooledSolver L) (out : HandsOut state old between first) where
    abbrev Answered : Finding → Type 0
    Answered finding = AnswersQuestion (allows (pooled_link first)) (pooled_state state first) (pooled_state state last) (text_for enums r t u) (decision_for finding)

    so_believed : (finding : Finding) → IsIdleSession state allows allowed (pooled_session first) → IsAskable enums r t u → Answered finding → finding ≡ Holds → IsHonest allowed → TellsAll (pooled_state state first) → AreRelated enums r t u
    so_believed finding idle askable answers is honest told =
        differences_tell.told enums r t u ht hu ft fu
        (idle_links_are_believed (allows (pooled_link first)) enums (difference_of r t u ∷ []) (pooled_state state first) (pooled_state state last) good askable (idle.honest honest) idle.link told
        (subst Answered is answers))

    pub finds : (result : Result Finding ReviewError) → IsIdleSession state allows allowed (pooled_session first) → OnOk result (IsAskable enums r t u) → IfOk result Answered → Keeps state allows between new last ⊎ GivesUp state between new last
        → IfOk result (Finds state allows old new allowed enums r t u)
    finds (Err e) idle askable answers back = tt
    finds (Ok finding) idle askable answers back = record {
      askable = askable;
      first = first;
      last = last;
      was_out = record { between = between; out = out; back = back };
      answers = answers;
      believed = λ is honest told. so_believed finding idle askable answers is honest told;
    }

    -- what all links tell, this one told
    pub all_believed : (result : Result Finding ReviewError) → IfOk result (Finds state allows old new allowed enums r t u) → ((link : L) → TellsAll (state link)) → IsHonest allowed → IfOk result (λ finding. finding ≡ Holds → AreRelated enums r t u)
    all_believed (Err e) found tell honest = tt
    all_believed (Ok finding) found tell honest = λ is. found.believed is honest (tell (pooled_link found.first))

    -- ---- why nothing is found

    same_faults : between.starter.link_faults ≡ old.starter.link_faults
    same_faults = elim out.taken [ inl h ↦ ap (λ s. s.link_faults) h.same_starter | inr h ↦ h.asked.same_link_faults ]

    link_back : (why : (before now : LinkState) → Type 0) → pooled_failed last ≡ true → Keeps state allows between new last ⊎ GivesUp state between new last → why (pooled_state state first) (pooled_state state last) → GivesLinkBack state allows old new why
    link_back why failed (inl k) h = absurd (not_both (pooled_failed last) failed k.unfailed)
    link_back why failed (inr g) h = elim g.why [
      | inl w ↦ record {
        between = between;
        session = first;
        out = out;
        link = g.link;
        why = subst (λ (l : L). why (pooled_state state first) (state l)) (sym w.1) h;
        returned = g.returned;
        not_kept = g.same_idle;
        shown = λ faulty. rose_as old.starter.link_faults between.starter.link_faults new.starter.link_faults same_faults (g.shown faulty);
      }
      | inr w ↦ absurd (not_both (pooled_failed last) failed w.unfailed)
    ]

    unreviewed : (e : ReviewError) → pooled_failed last ≡ true → Keeps state allows between new last ⊎ GivesUp state between new last → WhyNothingFound enums r t u e (pooled_state state first) (pooled_state state last)
        → WhyNotReviewed state allows old new enums r t u e
    unreviewed (Encode e) failed back h = link_back (WhyNothingFound enums r t u (Encode e)) failed back h
    unreviewed (Pool e) failed back h = absurd h
    unreviewed (Solver e) failed back h = link_back (WhyNothingFound enums r t u (Solver e)) failed back h
    unreviewed Memory failed back h = tt

    pub all_unreviewed : (result : Result Finding ReviewError) → pooled_failed last ≡ is_err result → Keeps state allows between new last ⊎ GivesUp state between new last → IfErr result (λ e. WhyNothingFound enums r t u e (pooled_state state first) (pooled_state state last))
        → IfErr result (WhyNotReviewed state allows old new enums r t u)
    all_unreviewed (Ok finding) failed back h = tt
    all_unreviewed (Err e) failed back h = unreviewed e failed back h

    -- ---- the next review

    kept_idle : (finding : Finding) (k : Keeps state allows between new last) → IsIdleSession state allows allowed (pooled_session first) → IsAskable enums r t u → Answered finding
        → AllowsTheSame (allows (pooled_link first)) (allows (pooled_link last)) → IsIdleSession state allows allowed k.session
    kept_idle finding k idle askable answers same = record {
      link = asked_links_are_idle_again (allows (pooled_link first)) enums (difference_of r t u ∷ []) (decision_for finding) (pooled_state state first) (pooled_state state last) (state_by state k.session) good askable idle.link answers
          (record { exchanged = k.reset; spared = k.spared; told = k.told; over = k.over });
      honest = λ g. honesty_is_handed_on (allows (session_link k.session)) (allows (pooled_link last)) k.same_allows.back (honesty_is_handed_on (allows (pooled_link last)) (allows (pooled_link first)) same.back (idle.honest g));
    }

    back_idle : (result : Result Finding ReviewError) → pooled_failed last ≡ is_err result → AreIdleSessions state allows allowed between.idle → IsIdleSession state allows allowed (pooled_session first) → OnOk result (IsAskable enums r t u) → IfOk result Answered
        → AllowsTheSame (allows (pooled_link first)) (allows (pooled_link last)) → Keeps state allows between new last ⊎ GivesUp state between new last → AreIdleSessions state allows allowed new.idle
    back_idle result failed all idle askable answers same (inr g) = All-same (IsIdleSession state allows allowed) new.idle between.idle g.same_idle all
    back_idle (Err e) failed all idle askable answers same (inl k) = absurd (not_both (pooled_failed last) failed k.unfailed)
    back_idle (Ok finding) failed all idle askable answers same (inl k) =
        All-same (IsIdleSession state allows allowed) new.idle (between.idle ++ k.session ∷ []) k.last (All-push (IsIdleSession state allows allowed) between.idle k.session all (kept_idle finding k idle askable answers same))

    again_with : {result : Result Bool SolverPoolError} → TakesBack between new result → AllowsTheSame allowed now → AreIdleSessions state allows allowed new.idle → MayBeAskedAgain state allows now old new
    again_with b same all = record {
      idle = all_lasting allowed now same new.idle all;
      permits = b.permit ∙ out.permit;
      out = (let p = b.out in let q = out.out in omega (arith, p, q));
      same_pool = record {
        same_max = b.same_pool.same_max ∙ out.same_pool.same_max;
        same_number = b.same_pool.same_number ∙ out.same_pool.same_number;
        same_command = b.same_pool.same_command ∙ out.same_pool.same_command;
      };
    }

    pub again : {released : Result Bool SolverPoolError} (result : Result Finding ReviewError) → TakesBack between new released → AllowsTheSame allowed now → pooled_failed last ≡ is_err result → AreIdleSessions state allows allowed between.idle → IsIdleSession state allows allowed (pooled_session first)
        → OnOk result (IsAskable enums r t u) → IfOk result Answered → AllowsTheSame (allows (pooled_link first)) (allows (pooled_link last)) → Keeps state allows between new last ⊎ GivesUp state between new last → MayBeAskedAgain state allows now old new
    again result b same failed all idle askable answers alike back = again_with b same (back_idle result failed all idle askable answers alike back)

    -- the session was lost, or its link
    pub again_without : (e : SolverPoolError) → TakesBack between new (Err e) → AllowsTheSame allowed now → AreIdleSessions state allows allowed between.idle → MayBeAskedAgain state allows now old new
    again_without e b same all = again_with b same (All-same (IsIdleSession state allows allowed) new.idle between.idle b.lost all)
