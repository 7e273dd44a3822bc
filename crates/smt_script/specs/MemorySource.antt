-- What a source in memory has left, which of its reads fail, and what a read gives, exactly.
use Rattle.std.specs.Prelude.{ℕ, ◌<◌, ◌≡◌, min, List, length, drop, All, Contains, Ok, IsErr, OnOk, OnErr, Option, Some, Result}
use Rattle.smt_script.specs.Memory.{counted}
use Rattle.smt_script.specs.declared.source.MemorySource.{MemorySource}
use Rattle.smt_script.specs.declared.source.SourceFault.{SourceFault}

-- the bytes that are left
abbrev pub bytes_left : MemorySource → List ℕ
bytes_left s = drop s.at s.bytes.items

-- It tells all bytes that are left.
abbrev pub memory_remaining : MemorySource → Option (List ℕ)
memory_remaining s = Some (bytes_left s)

-- the numbers, from 1, of the reads that are to fail
abbrev pub source_fails : MemorySource → List ℕ
source_fails s = s.fails.items

-- how many reads were made; the count stands still at 2^64 - 1
abbrev pub memory_reads : MemorySource → ℕ
memory_reads s = s.reads

-- how many reads have failed
abbrev pub memory_faults : MemorySource → ℕ
memory_faults s = s.faults

-- No byte was given, no read was made, and none has failed.
pub record IsUnread (s : MemorySource) (bytes fails : List ℕ) : Type 0 where
  pub remaining : bytes_left s ≡ bytes
  pub reads : memory_reads s ≡ 0
  pub faults : memory_faults s ≡ 0
  pub fails_given : source_fails s ≡ fails

-- No later read is to fail.
abbrev pub memory_never_fails : MemorySource → Type 0
memory_never_fails s = All (λ number. number < counted (memory_reads s)) (source_fails s)

-- The next read is to fail.
abbrev pub NextFails : MemorySource → Type 0
NextFails s = Contains (source_fails s) (counted (memory_reads s))

-- A read that is to fail fails. Any other gives what is left, as far as the buffer takes it.
pub record ReadsInMemory (old new : MemorySource) (buffer : List ℕ) (result : Result ℕ SourceFault) : Type 0 where
  pub to_fail : NextFails old → IsErr result
  pub given : ¬ NextFails old → result ≡ Ok (min (length (bytes_left old)) (length buffer))
  pub reads : memory_reads new ≡ counted (memory_reads old)
  pub no_fault : OnOk result (memory_faults new ≡ memory_faults old)
  pub fault : OnErr result (memory_faults new ≡ counted (memory_faults old))
  pub same_fails : source_fails new ≡ source_fails old
