-- What a caller keeps of a pool of sessions from one review to the next.
use Rattle.std.specs.Prelude.{◌≡◌, ℕ, List, All}
use Rattle.smt_solve.specs.Link.{AllowsTheSame, LinkState}
use Rattle.smt_solve.specs.Session.{session_link, state_by}
use Rattle.smt_solve.specs.declared.session.LocalSolver.{LocalSolver}
use Rattle.law_verdicts.specs.Honesty.{IsHonest}
use Rattle.law_verdicts.specs.Idle.{IsIdleLink}
use Rattle.smt_pool.specs.Pool.{PoolState, IsSamePool}
use Rattle.smt_pool.specs.Sessions.{AreHonest, AreUnused}

module _ {L : Type 0} (state : L → LinkState) (allows : L → List ℕ → List ℕ → List ℕ → Type 0) (allowed : List ℕ → List ℕ → List ℕ → Type 0)
  where
    -- A session may be handed out for a review: its link is idle, and it is honest where the links of the starter are, which allows
    -- `allowed`.
    pub record IsIdleSession (s : LocalSolver L) : Type 0 where
      pub link : IsIdleLink (state_by state s)
      pub honest : IsHonest allowed → IsHonest (allows (session_link s))

    -- All of these sessions may be handed out for a review.
    abbrev pub AreIdleSessions : List (LocalSolver L) → Type 0
    AreIdleSessions sessions = All IsIdleSession sessions

    -- After a review another may follow: the idle sessions may be handed out for it, and as many permits are free and as many sessions
    -- are out as before.
    pub record MayBeAskedAgain (old new : PoolState L) : Type 0 where
      pub idle : AreIdleSessions new.idle
      pub permits : new.permits ≡ old.permits
      pub out : new.out ≡ old.out
      pub same_pool : IsSamePool old new

-- Sessions that a starter just started may be handed out for a review, as those of a pool that was just opened: `first` is what the
-- starter allowed then, and `allowed` what it allows now.
abbrev pub UnusedSessionsAreIdle : {L : Type 0} → (L → LinkState) → (L → List ℕ → List ℕ → List ℕ → Type 0) →
    (first allowed : List ℕ → List ℕ → List ℕ → Type 0) → List (LocalSolver L) → Type 0
UnusedSessionsAreIdle state allows first allowed sessions =
    AllowsTheSame first allowed → AreUnused state sessions → AreHonest allows first sessions → AreIdleSessions state allows allowed sessions
