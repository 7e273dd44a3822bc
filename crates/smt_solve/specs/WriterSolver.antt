-- What a solver that only writes has, and what it puts.
use Rattle.std.specs.Prelude.{ℕ, ◌+◌, ◌≤◌, ◌≡◌, ◌⊎◌, List, length, IsOk, IsErrOf, IfErr, OnOk, OnErr, Option, Result}
use Rattle.std.specs.Io.KnownBytes.{append_known}
use Rattle.smt_script.specs.Sink.{AppendsPart, Rose}
use Rattle.smt_solve.specs.declared.error.SolverError.{SolverError}
use Rattle.smt_solve.specs.declared.error.SolverError.TheVariants.{Io, Memory}
use Rattle.smt_solve.specs.declared.writer_solver.WriterSolver.{WriterSolver}

-- what takes the lines of a solver that only writes
abbrev pub writer_in : {W : Type 0} → WriterSolver W → W
writer_in s = s.w

-- A step puts this line, and no other byte, into a sink, of which `contents` says what it holds, `faults` how often it has
-- failed, `has_room` how many bytes it certainly takes, and `place` which references lead to it.
pub record PutsLine {W T : Type 0} (contents : W → Option (List ℕ)) (faults : W → ℕ) (has_room : W → ℕ → Type 0) (place : W → List ℕ)
    (old new : W) (line : List ℕ) (result : Result T SolverError) : Type 0 where
  -- Ok appended all of it
  pub ok : OnOk result (contents new ≡ append_known (contents old) line)
  -- an error appended a first part of it
  pub err : OnErr result (AppendsPart (contents old) (contents new) line)
  -- the count of faults never falls
  pub later : faults old ≤ faults new
  -- the sink failed only where the count rose
  pub io : IsErrOf result Io → Rose (faults old) (faults new)
  pub only : IfErr result (λ e. (e ≡ Io) ⊎ (e ≡ Memory))
  -- a sink that certainly takes the line and n bytes more took the line, and takes the n
  pub room : (n : ℕ) → has_room old (length line + n) → IsOk result × has_room new n
  -- the same references lead to it
  pub same_place : place new ≡ place old
