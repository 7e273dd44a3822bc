-- What an error of a session becomes at a pool.
use Rattle.smt_solve.specs.declared.error.SolverError.{SolverError}
use Rattle.smt_solve.specs.declared.error.SolverError.TheVariants.{Memory as SolverWant}
use Rattle.smt_pool.specs.declared.error.SolverPoolError.{SolverPoolError}
use Rattle.smt_pool.specs.declared.error.SolverPoolError.TheVariants.{Solver, Memory}

-- An error of a session as one of a pool: want of memory is the pool's own, and any other is a session's.
abbrev pub pool_error : SolverError → SolverPoolError
pool_error SolverWant = Memory
pool_error error = Solver error
