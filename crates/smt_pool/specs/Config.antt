-- The configuration that a pool has where none is chosen.
use Rattle.std.specs.Prelude.{None}
use Rattle.smt_pool.specs.declared.config.SolverPoolConfig.{SolverPoolConfig}

-- The configuration where none is chosen: one session at the start, four at most, and no time to wait.
abbrev pub default_config : SolverPoolConfig
default_config = record { min_solvers = 1; max_solvers = 4; acquire_timeout = None }
