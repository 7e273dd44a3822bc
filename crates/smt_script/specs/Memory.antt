-- What sinks in memory hold, and what a put does to them, exactly.
use Rattle.std.specs.Prelude.{ℕ, ◌+◌, ◌-◌, ◌^◌, ◌≤◌, ◌<◌, ◌≡◌, min, List, [], ◌++◌, length, take, All, Contains, IsOk, IsErrOf, OnOk, OnErr}
use Rattle.std.specs.Prelude.{Result, Option, Some}
use Rattle.smt_script.specs.declared.sink.SinkError.{SinkError}
use Rattle.smt_script.specs.declared.sink.SinkError.TheVariants.{Fault}
use Rattle.smt_script.specs.declared.memory.MemorySink.{MemorySink}
use Rattle.smt_script.specs.declared.memory.ListSink.{ListSink}

-- the bytes that it holds
abbrev pub memory_bytes : MemorySink → List ℕ
memory_bytes s = s.bytes.items

-- It tells all bytes that it holds.
abbrev pub memory_contents : MemorySink → Option (List ℕ)
memory_contents s = Some (memory_bytes s)

-- how many bytes it holds at most
abbrev pub memory_room : MemorySink → ℕ
memory_room s = s.room

-- the numbers, from 1, of the puts that are to fail
abbrev pub memory_fails : MemorySink → List ℕ
memory_fails s = s.fails.items

-- how many puts were made
abbrev pub memory_puts : MemorySink → ℕ
memory_puts s = s.puts

-- how many puts failed
abbrev pub memory_faults : MemorySink → ℕ
memory_faults s = s.faults

-- A count goes up by one, and stands still at 2^64 - 1.
abbrev pub counted : ℕ → ℕ
counted n = min (n + 1) (2 ^ 64 - 1)

-- No bytes are held, no put was made, and none has failed.
pub record IsFresh (s : MemorySink) (fails : List ℕ) (room : ℕ) : Type 0 where
  pub empty : memory_bytes s ≡ []
  pub puts : memory_puts s ≡ 0
  pub faults : memory_faults s ≡ 0
  pub fails_given : memory_fails s ≡ fails
  pub room_given : memory_room s ≡ room

-- It has room for this many bytes more, and no later put is to fail.
abbrev pub memory_has_room : MemorySink → ℕ → Type 0
memory_has_room s n = All (λ number. number < counted (memory_puts s)) (memory_fails s) × (length (memory_bytes s) + n ≤ memory_room s)

-- The next put is to fail.
abbrev pub IsToFail : MemorySink → Type 0
IsToFail s = Contains (memory_fails s) (counted (memory_puts s))

-- the part of these bytes that fits
abbrev pub fitting : MemorySink → List ℕ → List ℕ
fitting s bytes = take (memory_room s - length (memory_bytes s)) bytes

-- A put that is to fail appends nothing. Any other appends what fits, and is Ok where that is all.
pub record PutsInMemory {T : Type 0} (old new : MemorySink) (bytes : List ℕ) (result : Result T SinkError) : Type 0 where
  pub to_fail : IsToFail old → IsErrOf result Fault × (memory_bytes new ≡ memory_bytes old)
  pub appends : ¬ IsToFail old → memory_bytes new ≡ memory_bytes old ++ fitting old bytes
  pub fits : ¬ IsToFail old → length (memory_bytes old) + length bytes ≤ memory_room old → IsOk result
  pub passes : ¬ IsToFail old → memory_room old < length (memory_bytes old) + length bytes → IsErrOf result Fault
  pub puts : memory_puts new ≡ counted (memory_puts old)
  pub no_fault : OnOk result (memory_faults new ≡ memory_faults old)
  pub fault : OnErr result (memory_faults new ≡ counted (memory_faults old))
  pub same_fails : memory_fails new ≡ memory_fails old
  pub same_room : memory_room new ≡ memory_room old

-- the bytes that it holds
abbrev pub list_bytes : ListSink → List ℕ
list_bytes s = s.bytes.items

-- It tells all bytes that it holds.
abbrev pub list_contents : ListSink → Option (List ℕ)
list_contents s = Some (list_bytes s)
