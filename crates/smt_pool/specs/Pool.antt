-- What a pool has, and what its calls do to it.
use Rattle.std.specs.Prelude.{ℕ, ◌+◌, ◌<◌, ◌≡◌, ◌⊎◌, ⊤, false, IsTrue, List, [], ◌∷◌, ◌++◌, length, map, replicate, IfSome, IsOkUnless}
use Rattle.std.specs.Prelude.{OnErr, Bool, Result}
use Rattle.smt_script.specs.CommandTexts.{reset_text}
use Rattle.smt_script.specs.Sink.{Rose}
use Rattle.smt_solve.specs.Link.{AllowsTheSame, IsOver, LinkState}
use Rattle.smt_solve.specs.Question.{BeginsExchange, Exchanges, Spares, TellsToComeAlike}
use Rattle.smt_solve.specs.Session.{session_link, state_by}
use Rattle.smt_solve.specs.Starter.{Command, StarterState, add_told, command_of}
use Rattle.smt_solve.specs.declared.error.SolverError.{SolverError}
use Rattle.smt_solve.specs.declared.error.SolverError.TheVariants.{Io, Solver as SolverSays, UnrecognizedSolverOutput, SolverMarkedFailed}
use Rattle.smt_solve.specs.declared.error.SolverError.TheVariants.{AnswerTooLong, Memory as SolverWant}
use Rattle.smt_solve.specs.declared.session.LocalSolver.{LocalSolver}
use Rattle.smt_pool.specs.Pooled.{pooled_failed, pooled_link, pooled_number, pooled_session, pooled_state}
use Rattle.smt_pool.specs.Sessions.{AreUnused, IsAsked, IsClean, IsStarted, add_all}
use Rattle.smt_pool.specs.declared.config.SolverPoolConfig.{SolverPoolConfig}
use Rattle.smt_pool.specs.declared.error.SolverPoolError.{SolverPoolError}
use Rattle.smt_pool.specs.declared.error.SolverPoolError.TheVariants.{SemaphoreClosed, AcquireTimeout, Solver, Memory}
use Rattle.smt_pool.specs.declared.pool.SolverPool.{SolverPool}
use Rattle.smt_pool.specs.declared.pooled.PooledSolver.{PooledSolver}

-- What a pool of sessions has, whose links are of type `L`.
pub record PoolState (L : Type 0) : Type 0 where
  -- the sessions that are idle, from first to last
  pub idle : List (LocalSolver L)
  -- the permits that are free
  pub permits : ℕ
  -- how many sessions are out: handed out, and not yet taken back
  pub out : ℕ
  -- how many sessions may be out at one time
  pub max : ℕ
  -- the number of the pool, which its sessions tell
  pub number : ℕ
  -- the command that starts its sessions
  pub command : Command
  -- what its starter tells
  pub starter : StarterState L

-- the starter by which a pool starts its sessions
abbrev pub pool_starter : {P L : Type 0} {B C : _} → SolverPool P L B C → P
pool_starter pool = pool.starter

-- what a pool has, where `state` is what its starter tells
abbrev pub pool_state : {P L : Type 0} {B C : _} → (P → StarterState L) → SolverPool P L B C → PoolState L
pool_state state pool = record {
  idle = pool.idle.items;
  permits = pool.permits;
  out = pool.out;
  max = pool.max;
  number = pool.number;
  command = command_of pool.command;
  starter = state (pool_starter pool);
}

-- It is the same pool: its greatest number of sessions, its own number and its command have not changed.
pub record IsSamePool {L : Type 0} (old new : PoolState L) : Type 0 where
  pub same_max : new.max ≡ old.max
  pub same_number : new.number ≡ old.number
  pub same_command : new.command ≡ old.command

-- A pool was just opened: all permits are free, and as many sessions as are to be at the start were started and are idle.
pub record Opens {L : Type 0} (state : L → LinkState) (before : StarterState L) (config : SolverPoolConfig) (its_number : ℕ)
    (its_command : Command) (new : PoolState L) : Type 0 where
  pub permits : new.permits ≡ config.max_solvers
  pub none_out : new.out ≡ 0
  pub max : new.max ≡ config.max_solvers
  pub count : length new.idle ≡ config.min_solvers
  pub unused : AreUnused state new.idle
  pub asked : IsAsked before new.starter its_command config.min_solvers
  pub number : new.number ≡ its_number
  pub command : new.command ≡ its_command

-- A solver did not start: the starter was asked once more than it gave links, on none of which a call was made, and all came back.
pub record GivesAllBack {L : Type 0} (state : L → LinkState) (old new : StarterState L) (command : Command) (config : SolverPoolConfig) :
    Type 0 where
  pub sessions : List (LocalSolver L)
  pub few : length sessions < config.min_solvers
  pub unused : AreUnused state sessions
  pub asked : new.commands ≡ add_all old.commands (replicate (length sessions + 1) command)
  pub returned : new.returned ≡ add_all old.returned (map session_link sessions)
  pub rose : Rose old.failed_starts new.failed_starts

-- why a pool was not opened: a solver did not start, and all links came back, or there was no memory
abbrev pub WhyNotOpened : {L : Type 0} → (L → LinkState) → (old new : StarterState L) → SolverPoolConfig → Command → SolverError → Type 0
WhyNotOpened state old new config command Io = GivesAllBack state old new command config
WhyNotOpened state old new config command (SolverSays message) = ⊥
WhyNotOpened state old new config command (UnrecognizedSolverOutput line) = ⊥
WhyNotOpened state old new config command SolverMarkedFailed = ⊥
WhyNotOpened state old new config command AnswerTooLong = ⊥
WhyNotOpened state old new config command SolverWant = ⊤

-- A session that is handed out was the last idle one of the pool.
pub record TakesLast {L : Type 0} (old new : PoolState L) (s : LocalSolver L) : Type 0 where
  pub last : old.idle ≡ new.idle ++ s ∷ []
  pub same_starter : new.starter ≡ old.starter

-- A session that is handed out was just started, since none was idle.
pub record StartsOne {L : Type 0} (state : L → LinkState) (old new : PoolState L) (s : LocalSolver L) : Type 0 where
  pub none_idle : old.idle ≡ []
  pub still_none : new.idle ≡ []
  pub started : IsStarted state s
  pub asked : IsAsked old.starter new.starter old.command 1

-- A pool hands a session out, which takes a permit and has not failed.
pub record HandsOut {L : Type 0} (state : L → LinkState) (old new : PoolState L) (s : PooledSolver L) : Type 0 where
  pub taken : TakesLast old new (pooled_session s) ⊎ StartsOne state old new (pooled_session s)
  pub permit : new.permits + 1 ≡ old.permits
  pub out : new.out ≡ old.out + 1
  pub unfailed : pooled_failed s ≡ false
  -- the solver was sent nothing, or `(reset)` with its LF last
  pub clean : IfSome (pooled_state state s).sent IsClean
  pub number : pooled_number s ≡ old.number
  pub same_pool : IsSamePool old new

-- Why no session was handed out by a pool that was in this state.
abbrev pub CauseNotAcquired : {L : Type 0} → (old new : PoolState L) → SolverPoolError → Type 0
CauseNotAcquired old new SemaphoreClosed = ⊥
CauseNotAcquired old new AcquireTimeout = (old.permits ≡ 0) × (new.starter ≡ old.starter)
CauseNotAcquired old new (Solver error) =
    (error ≡ Io) × (old.idle ≡ []) × IsAsked old.starter new.starter old.command 1
    × Rose old.starter.failed_starts new.starter.failed_starts
CauseNotAcquired old new Memory = old.idle ≡ []

-- No session is handed out, for the cause of this error. The sessions and permits are as before.
pub record WhyNotAcquired {L : Type 0} (old new : PoolState L) (error : SolverPoolError) : Type 0 where
  pub cause : CauseNotAcquired old new error
  pub same_idle : new.idle ≡ old.idle
  pub same_permits : new.permits ≡ old.permits
  pub same_out : new.out ≡ old.out
  pub same_pool : IsSamePool old new

-- A pool keeps a session that came back and had not failed: it is sent `(reset)` (SMT-LIB 2.7, chapter 4) with its LF, and
-- becomes the last idle one.
pub record Keeps {L : Type 0} (state : L → LinkState) (allows : L → List ℕ → List ℕ → List ℕ → Type 0) (old new : PoolState L)
    (s : PooledSolver L) : Type 0 where
  pub unfailed : pooled_failed s ≡ false
  pub session : LocalSolver L
  pub last : new.idle ≡ old.idle ++ session ∷ []
  pub reset : Exchanges (pooled_state state s) (state_by state session) reset_text []
  pub spared : Spares (pooled_state state s) (state_by state session)
  -- what is to come may change, and is told where it was
  pub told : TellsToComeAlike (pooled_state state s) (state_by state session)
  -- where its answers ended inside a line, no later holder gets an answer, and the first who asks makes it one that is not kept
  pub over : IsOver (pooled_state state s) → IsOver (state_by state session)
  pub same_allows : AllowsTheSame (allows (pooled_link s)) (allows (session_link session))
  pub same_starter : new.starter ≡ old.starter

-- The link of a session that had not failed before failed while `(reset)` was sent, and the solver was not killed.
pub record FailsToReset {L : Type 0} (state : L → LinkState) (s : PooledSolver L) (link : L) : Type 0 where
  pub unfailed : pooled_failed s ≡ false
  pub sent : BeginsExchange (pooled_state state s) (state link) reset_text
  pub rose : Rose (pooled_state state s).faults (state link).faults
  pub spared : Spares (pooled_state state s) (state link)

-- A pool does not keep a session that came back, and the link goes back to the starter: the session had failed before, and is
-- sent nothing, or its link fails now. Where the link has failed at any time, the starter shows it.
pub record GivesUp {L : Type 0} (state : L → LinkState) (old new : PoolState L) (s : PooledSolver L) : Type 0 where
  pub link : L
  pub why : (IsTrue (pooled_failed s) × (link ≡ pooled_link s)) ⊎ FailsToReset state s link
  pub shown : 0 < (state link).faults → Rose old.starter.link_faults new.starter.link_faults
  pub returned : new.starter.returned ≡ add_told old.starter.returned link
  pub same_idle : new.idle ≡ old.idle

-- A pool takes a session and its permit back, whatever the answer is.
pub record TakesBack {L : Type 0} (old new : PoolState L) (result : Result Bool SolverPoolError) : Type 0 where
  pub permit : new.permits ≡ old.permits + 1
  pub out : new.out + 1 ≡ old.out
  pub lost : OnErr result (new.idle ≡ old.idle)
  pub refusal : IsOkUnless result Memory
  pub same_commands : new.starter.commands ≡ old.starter.commands
  pub same_failed_starts : new.starter.failed_starts ≡ old.starter.failed_starts
  pub same_pool : IsSamePool old new

-- A pool is closed: the links of its idle sessions went back to its starter, from first to last.
pub record Closes {L : Type 0} (old : PoolState L) (new : StarterState L) : Type 0 where
  pub returned : new.returned ≡ add_all old.starter.returned (map session_link old.idle)
  pub same_commands : new.commands ≡ old.starter.commands
  pub same_failed_starts : new.failed_starts ≡ old.starter.failed_starts
