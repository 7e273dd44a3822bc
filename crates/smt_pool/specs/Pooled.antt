-- What a session that a pool has handed out has, and what guards its calls.
use Rattle.std.specs.Prelude.{ℕ, ◌≡◌, Bool, List, Result}
use Rattle.smt_solve.specs.Link.{LinkState}
use Rattle.smt_solve.specs.Session.{Guards as SessionGuards, session_failed, session_link, state_by}
use Rattle.smt_solve.specs.declared.error.SolverError.{SolverError}
use Rattle.smt_solve.specs.declared.input.SessionInput.{SessionInput}
use Rattle.smt_solve.specs.declared.session.LocalSolver.{LocalSolver}
use Rattle.smt_pool.specs.declared.pooled.PooledSolver.{PooledSolver}

-- the session that was handed out
abbrev pub pooled_session : {L : Type 0} → PooledSolver L → LocalSolver L
pooled_session s = s.session

-- the link of a session that was handed out
abbrev pub pooled_link : {L : Type 0} → PooledSolver L → L
pooled_link s = session_link (pooled_session s)

-- what takes the lines of a session that was handed out
abbrev pub pooled_input : {L : Type 0} → PooledSolver L → SessionInput L
pooled_input s = (pooled_session s).input

-- whether a session that was handed out has failed: it was marked, or has answered an error
abbrev pub pooled_failed : {L : Type 0} → PooledSolver L → Bool
pooled_failed s = session_failed (pooled_session s)

-- the number of the pool that handed a session out
abbrev pub pooled_number : {L : Type 0} → PooledSolver L → ℕ
pooled_number s = s.number

-- what the link of a session that was handed out tells
abbrev pub pooled_state : {L : Type 0} → (L → LinkState) → PooledSolver L → LinkState
pooled_state state s = state_by state (pooled_session s)

-- A call on a session that was handed out does what it does on a session: one that has failed does nothing, and says so. The
-- number of the pool stays.
pub record Guards {L T : Type 0} (allows : L → List ℕ → List ℕ → List ℕ → Type 0) (old new : PooledSolver L) (result : Result T SolverError)
    : Type 0 where
  pub session : SessionGuards allows (pooled_session old) (pooled_session new) result
  pub same_number : pooled_number new ≡ pooled_number old
