-- What a sink that always fails tells.
use Rattle.std.specs.Prelude.{ℕ, List, [], Option, Some}
use Rattle.smt_solve.specs.declared.failed_writer.FailedWriter.{FailedWriter}

-- A sink that always fails holds nothing, and tells so.
abbrev pub failed_contents : FailedWriter → Option (List ℕ)
failed_contents s = Some []

-- how many puts and flushes a sink that always fails has refused; the count stands still at 2^64 - 1
abbrev pub failed_faults : FailedWriter → ℕ
failed_faults s = s.faults
