-- What a read does to a source.
use Rattle.std.specs.Prelude.{ℕ, ◌≤◌, ◌≡◌, List, [], length, take, Ok, IsOk, IfOk, IfSome, OnOk, OnErr, Option, Result}
use Rattle.std.specs.Io.KnownBytes.{prepend_known}
use Rattle.smt_script.specs.Sink.{Rose}
use Rattle.smt_script.specs.declared.source.ReadSource.{ReadSource}
use Rattle.smt_script.specs.declared.source.SourceFault.{SourceFault}

-- A read is made, where a source has `remaining` left, has failed `faults` times, certainly fails at no
-- read where `never_fails` holds, and stands at `place`.
pub record ReadsNext {S : Type 0} (remaining : S → Option (List ℕ)) (faults : S → ℕ) (never_fails : S → Type 0) (place : S → List ℕ)
    (old new : S) (buffer : List ℕ) (result : Result ℕ SourceFault) : Type 0 where
  -- no more than the buffer takes
  pub bound : IfOk result (λ n. n ≤ length buffer)
  -- Ok of n gave the next n bytes, at the buffer's front
  pub bytes : IfOk result (λ n. remaining old ≡ prepend_known (take n buffer) (remaining new))
  -- 0 is given only at the end
  pub end : result ≡ Ok 0 → IfSome (remaining new) (λ bytes. bytes ≡ [])
  -- a fault took nothing
  pub kept : OnErr result (remaining new ≡ remaining old)
  -- the count of faults never falls
  pub later : faults old ≤ faults new
  -- the count stands still where bytes were given
  pub no_fault : OnOk result (faults new ≡ faults old)
  -- a fault comes only where the count rose
  pub cause : OnErr result (Rose (faults old) (faults new))
  -- a source that certainly fails at no read gave, and fails at no later one
  pub certain : never_fails old → IsOk result × never_fails new
  -- the same references lead to it
  pub same_place : place new ≡ place old

-- It may fail at any read.
abbrev pub never_certain : {S : Type 0} → S → Type 0
never_certain s = ⊥

-- what it reads
abbrev pub reader_of : {R : Type 0} → ReadSource R → R
reader_of s = s.reader

-- how many reads failed; the count stands still at 2^64 - 1
abbrev pub read_faults : {R : Type 0} → ReadSource R → ℕ
read_faults s = s.faults
