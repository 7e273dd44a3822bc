-- What a put and a flush do to a sink.
use Rattle.std.specs.Prelude.{ℕ, ◌+◌, ◌-◌, ◌^◌, ◌≤◌, ◌≡◌, min, List, [], ◌++◌, length, IsOk, OnOk, OnErr, IsErrOf, Result, Option, None}
use Rattle.std.specs.Io.KnownBytes.{append_known}
use Rattle.smt_script.specs.declared.sink.SinkError.{SinkError}
use Rattle.smt_script.specs.declared.sink.SinkError.TheVariants.{Fault}

-- A count of faults rose, or stands at its last value.
abbrev pub Rose : ℕ → ℕ → Type 0
Rose before now = min (before + 1) (2 ^ 64 - 1) ≤ now

-- Bytes that are told grow by some first part of these bytes.
pub record AppendsPart (old new : Option (List ℕ)) (bytes : List ℕ) : Type 0 where
  pub part : List ℕ
  pub rest : List ℕ
  pub whole : part ++ rest ≡ bytes
  pub appended : new ≡ append_known old part

-- These bytes are put, where a sink holds `contents`, has failed `faults` times, certainly takes
-- `has_room` and stands at `place`.
pub record Puts {S T : Type 0} (contents : S → Option (List ℕ)) (faults : S → ℕ) (has_room : S → ℕ → Type 0) (place : S → List ℕ)
    (old new : S) (bytes : List ℕ) (result : Result T SinkError) : Type 0 where
  -- Ok appended all of them
  pub ok : OnOk result (contents new ≡ append_known (contents old) bytes)
  -- an error appended a first part of them
  pub err : OnErr result (AppendsPart (contents old) (contents new) bytes)
  -- the count of faults never falls
  pub later : faults old ≤ faults new
  -- the count stands still where all was taken
  pub no_fault : OnOk result (faults new ≡ faults old)
  -- a fault comes only where the count rose
  pub cause : IsErrOf result Fault → Rose (faults old) (faults new)
  -- a sink that certainly takes these and n bytes more took these, and takes the n
  pub room : (n : ℕ) → has_room old (length bytes + n) → IsOk result × has_room new n
  -- the same references lead to it
  pub same_place : place new ≡ place old

-- What is held back is handed on, where a sink holds `contents`, has failed `faults` times, certainly takes `has_room` and
-- stands at `place`.
pub record Flushes {S T : Type 0} (contents : S → Option (List ℕ)) (faults : S → ℕ) (has_room : S → ℕ → Type 0) (place : S → List ℕ)
    (old new : S) (result : Result T SinkError) : Type 0 where
  -- it holds what it held, also on an error
  pub same_contents : contents new ≡ contents old
  -- the count of faults never falls
  pub later : faults old ≤ faults new
  -- the count stands still where all was handed on
  pub no_fault : OnOk result (faults new ≡ faults old)
  -- a fault comes only where the count rose
  pub cause : IsErrOf result Fault → Rose (faults old) (faults new)
  -- a sink that certainly takes n bytes flushed, and takes them still
  pub room : (n : ℕ) → has_room old n → IsOk result × has_room new n
  -- the same references lead to it
  pub same_place : place new ≡ place old

-- It tells nothing of what it holds.
abbrev pub untold : {S : Type 0} → S → Option (List ℕ)
untold s = None

-- It is certain to take nothing.
abbrev pub uncertain : {S : Type 0} → S → ℕ → Type 0
uncertain s n = ⊥

-- It certainly takes any number of bytes.
abbrev pub certain : {S : Type 0} → S → ℕ → Type 0
certain s n = Unit {0}

-- It never fails.
abbrev pub faultless : {S : Type 0} → S → ℕ
faultless s = 0

-- No reference leads to it.
abbrev pub unreferenced : {S : Type 0} → S → List ℕ
unreferenced s = []
