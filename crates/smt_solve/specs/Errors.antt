-- What an error of a sink becomes at a solver.
use Rattle.smt_script.specs.declared.sink.SinkError.{SinkError}
use Rattle.smt_script.specs.declared.sink.SinkError.TheVariants.{Fault, Memory as SinkWant}
use Rattle.smt_solve.specs.declared.error.SolverError.{SolverError}
use Rattle.smt_solve.specs.declared.error.SolverError.TheVariants.{Io, Memory}

-- An error of a sink as one of a solver: a fault is `Io`, a failure of what leads to the solver, and want of memory stays want
-- of memory.
abbrev pub solver_error : SinkError → SolverError
solver_error Fault = Io
solver_error SinkWant = Memory
