-- What a sink over a writer has.
use Rattle.std.specs.Prelude.{ℕ}
use Rattle.smt_script.specs.declared.writer.BufferedSink.{BufferedSink}
use Rattle.smt_script.specs.declared.writer.WriteSink.{WriteSink}

-- what a sink with a buffer writes to
abbrev pub buffered_writer : {W : Type 0} → BufferedSink W → W
buffered_writer s = s.writer

-- how many puts and flushes of a sink with a buffer failed; the count stands still at 2^64 - 1
abbrev pub buffered_faults : {W : Type 0} → BufferedSink W → ℕ
buffered_faults s = s.faults

-- what a sink writes to that flushes each line
abbrev pub writer_of : {W : Type 0} → WriteSink W → W
writer_of s = buffered_writer s.buffered

-- how many puts and flushes of a sink failed that flushes each line; the count stands still at 2^64 - 1
abbrev pub write_faults : {W : Type 0} → WriteSink W → ℕ
write_faults s = buffered_faults s.buffered
