-- What an error below becomes as an error of a review.
use Rattle.smt_encode.specs.declared.error.EncodeError.{EncodeError}
use Rattle.smt_encode.specs.declared.error.EncodeError.TheVariants.{Memory as EncodeWant}
use Rattle.smt_pool.specs.declared.error.SolverPoolError.{SolverPoolError}
use Rattle.smt_pool.specs.declared.error.SolverPoolError.TheVariants.{Memory as PoolWant}
use Rattle.smt_solve.specs.declared.error.SolverError.{SolverError}
use Rattle.smt_solve.specs.declared.error.SolverError.TheVariants.{Memory as SolverWant}
use Rattle.smt_review.specs.declared.error.ReviewError.{ReviewError}
use Rattle.smt_review.specs.declared.error.ReviewError.TheVariants.{Encode, Pool, Solver, Memory}

-- an error of an encoder: want of memory is the review's own
abbrev pub encode_refusal : EncodeError → ReviewError
encode_refusal EncodeWant = Memory
encode_refusal error = Encode error

-- an error of a pool
abbrev pub pool_refusal : SolverPoolError → ReviewError
pool_refusal PoolWant = Memory
pool_refusal error = Pool error

-- an error of a session
abbrev pub solver_refusal : SolverError → ReviewError
solver_refusal SolverWant = Memory
solver_refusal error = Solver error
