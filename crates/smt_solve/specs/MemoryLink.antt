-- What a link in memory tells, which of its calls fail, and what they do, exactly.
use Rattle.std.specs.Prelude.{ℕ, ◌≡◌, Bool, false, cond, ⊤, ℤ, List, [], take, drop, Contains, IsErrOf, Option, None, Some, Result}
use Rattle.smt_script.specs.Memory.{counted}
use Rattle.smt_solve.specs.Link.{IsUnused, LinkState}
use Rattle.smt_solve.specs.declared.link.Ended.{Ended}
use Rattle.smt_solve.specs.declared.link.Ended.TheVariants.{Running, Code}
use Rattle.smt_solve.specs.declared.link.LinkError.{LinkError}
use Rattle.smt_solve.specs.declared.link.LinkError.TheVariants.{Fault}
use Rattle.smt_solve.specs.declared.memory.MemoryLink.{MemoryLink}

-- the bytes of a link's answers that are still to come
abbrev pub bytes_left : MemoryLink → List ℕ
bytes_left s = drop s.at s.answers.items

-- What a link in memory tells of itself: all.
abbrev pub memory_state : MemoryLink → LinkState
memory_state s = record {
  sent = Some s.sent.items;
  was_read = Some (take s.at s.answers.items);
  to_come = Some (bytes_left s);
  ended = Some s.end;
  killed = Some s.killed;
  faults = s.faults;
}

-- the bytes that were sent to a link in memory
abbrev pub memory_sent : MemoryLink → List ℕ
memory_sent s = s.sent.items

-- Any line may follow on a link in memory: it gives the answers that it was made with, whatever is sent.
abbrev pub memory_allows : MemoryLink → List ℕ → List ℕ → List ℕ → Type 0
memory_allows s text earlier line = ⊤

-- the numbers, from 1, of the calls of a link in memory that are to fail
abbrev pub memory_fails : MemoryLink → List ℕ
memory_fails s = s.fails.items

-- how many calls of `send`, `flush`, `read_line`, `ended` and `kill` were made on a link in memory; the count stands still at 2^64 - 1
abbrev pub memory_calls : MemoryLink → ℕ
memory_calls s = s.calls

-- how many calls of a link in memory failed; the count stands still at 2^64 - 1
abbrev pub memory_faults : MemoryLink → ℕ
memory_faults s = s.faults

-- how the solver of a link in memory has ended from the start: with this code, or not at all
abbrev pub ended_with : Option ℤ → Ended
ended_with None = Running
ended_with (Some code) = Code code

-- A link in memory was just made: no call was made on it, and it has these answers to come, these calls to fail, and this end.
pub record IsNew (s : MemoryLink) (answers fails : List ℕ) (ends : Option ℤ) : Type 0 where
  pub state :
      memory_state s
      ≡ record
      { sent = Some []; was_read = Some []; to_come = Some answers; ended = Some (ended_with ends); killed = Some false; faults = 0 }
  pub calls : memory_calls s ≡ 0
  pub fails_given : memory_fails s ≡ fails

-- No call was made on a link in memory.
pub record IsUntouched (s : MemoryLink) : Type 0 where
  pub unused : IsUnused (memory_state s)
  pub calls : memory_calls s ≡ 0

-- The next call of a link in memory is to fail.
abbrev pub IsToFail : MemoryLink → Type 0
IsToFail s = Contains (memory_fails s) (counted (memory_calls s))

-- The link in memory after it counted a call, and with it a fault where the call is to fail.
abbrev pub counts_call : MemoryLink → Bool → MemoryLink
counts_call s fails = record s { calls = counted s.calls; faults = cond fails (counted s.faults) s.faults }

-- A call of a link in memory is a fault exactly where it is to fail. The call is counted, and the calls that are to fail stay.
pub record FailsAsTold {T : Type 0} (old new : MemoryLink) (result : Result T LinkError) : Type 0 where
  pub to_fail : IsToFail old → IsErrOf result Fault
  pub only : IsErrOf result Fault → IsToFail old
  pub calls : memory_calls new ≡ counted (memory_calls old)
  pub same_fails : memory_fails new ≡ memory_fails old

-- The end of a link in memory stays.
abbrev pub EndStays : (old new : MemoryLink) → Type 0
EndStays old new = (memory_state new).ended ≡ (memory_state old).ended
