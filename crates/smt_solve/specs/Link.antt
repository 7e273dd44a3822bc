-- What a link to a solver tells, and what its calls do to it.
use Rattle.std.specs.Prelude.{ℕ, ◌<◌, ◌≤◌, ◌≡◌, ◌≢◌, ⊤, Bool, true, false, List, [], ◌∷◌, ◌++◌, length, All, IfOk, IfSome, IsErrOf, OnOk}
use Rattle.std.specs.Prelude.{OnErr, is_some, ◌⊎◌, Option, None, Some, Result}
use Rattle.std.specs.Option.{option_map}
use Rattle.std.specs.Io.KnownBytes.{append_known, prepend_known}
use Rattle.smt_script.specs.Sink.{AppendsPart, Rose}
use Rattle.smt_solve.specs.declared.link.Ended.{Ended}
use Rattle.smt_solve.specs.declared.link.Ended.TheVariants.{Running, Code, Killed}
use Rattle.smt_solve.specs.declared.link.LineEnd.{LineEnd}
use Rattle.smt_solve.specs.declared.link.LineEnd.TheVariants.{Line, End, TooLong}
use Rattle.smt_solve.specs.declared.link.LinkError.{LinkError}
use Rattle.smt_solve.specs.declared.link.LinkError.TheVariants.{Fault}

-- What a link to a solver tells of itself. What is `None` is not told.
pub record LinkState : Type 0 where
  -- the bytes that were sent
  pub sent : Option (List ℕ)
  -- the bytes that were read
  pub was_read : Option (List ℕ)
  -- the bytes that are still to come
  pub to_come : Option (List ℕ)
  -- whether the solver has ended, and with which code; `Killed` is an end without a code
  pub ended : Option Ended
  -- whether the solver was killed
  pub killed : Option Bool
  -- how often the link failed; the count stands still at 2^64 - 1
  pub faults : ℕ

-- No call was made on a link: by what it tells nothing was sent, read or killed, and it has never failed.
pub record IsUnused (s : LinkState) : Type 0 where
  pub sent : IfSome s.sent (λ text. text ≡ [])
  pub was_read : IfSome s.was_read (λ text. text ≡ [])
  pub killed : IfSome s.killed (λ k. k ≡ false)
  pub faults : s.faults ≡ 0

-- The first relation allows only what the second allows. Such a relation says which line may follow a text that was sent and
-- the lines that were read.
abbrev pub AllowsOnly : (List ℕ → List ℕ → List ℕ → Type 0) → (List ℕ → List ℕ → List ℕ → Type 0) → Type 0
AllowsOnly first second = (text earlier line : List ℕ) → first text earlier line → second text earlier line

-- Two relations allow the same lines.
pub record AllowsTheSame (first second : List ℕ → List ℕ → List ℕ → Type 0) : Type 0 where
  pub there : AllowsOnly first second
  pub back : AllowsOnly second first

-- The line may follow what was sent and read, where both are told.
abbrev pub IsAllowed : (List ℕ → List ℕ → List ℕ → Type 0) → (sent was_read : Option (List ℕ)) → List ℕ → Type 0
IsAllowed allows sent was_read line = IfSome sent (λ text. IfSome was_read (λ earlier. allows text earlier line))

-- No byte is a line feed.
abbrev pub HasNoLineFeed : List ℕ → Type 0
HasNoLineFeed bytes = All (λ b. b ≢ 10) bytes

-- The bytes are one line, which ends with its one line feed.
abbrev pub IsLine : List ℕ → Type 0
IsLine bytes = (body : List ℕ) × HasNoLineFeed body × (bytes ≡ body ++ 10 ∷ [])

-- How a read of at most `limit` bytes ended that gave `piece` and left `to_come`: with a whole line, at the end of the answers
-- inside a line or before one, or with as many bytes as are read at most and no line feed.
abbrev pub EndsAs : LineEnd → (piece : List ℕ) → (limit : ℕ) → (to_come : Option (List ℕ)) → Type 0
EndsAs Line piece limit to_come = IsLine piece × (length piece ≤ limit)
EndsAs End piece limit to_come = HasNoLineFeed piece × (length piece < limit) × IfSome to_come (λ left. left ≡ [])
EndsAs TooLong piece limit to_come = HasNoLineFeed piece × (length piece ≡ limit)

-- A read that ended so gave a line. What came before the end of the answers is a line like any other, unless it has no byte.
abbrev pub GivesLine : LineEnd → (piece : List ℕ) → Type 0
GivesLine Line piece = ⊤
GivesLine End piece = piece ≢ []
GivesLine TooLong piece = ⊥

-- A solver that has ended stays as it ended, and a link that does not tell the end does not tell it later.
abbrev pub KeepsEnd : (old new : Option Ended) → Type 0
KeepsEnd None new = new ≡ None
KeepsEnd (Some Running) new = is_some new ≡ true
KeepsEnd (Some (Code code)) new = new ≡ Some (Code code)
KeepsEnd (Some Killed) new = new ≡ Some Killed

-- The bytes end inside a line: they are some, and the last is no line feed.
abbrev pub EndsInside : List ℕ → Type 0
EndsInside bytes = (front : List ℕ) × (last : ℕ) × (bytes ≡ front ++ last ∷ []) × (last ≢ 10)

-- A link tells that its answers have ended, and that they did so inside a line.
pub record IsOver (s : LinkState) : Type 0 where
  pub to_come : s.to_come ≡ Some []
  pub answers : List ℕ
  pub was_read : s.was_read ≡ Some answers
  pub inside : EndsInside answers

-- A link's count of faults never falls, it stands still with Ok, and a fault comes only where it rose.
pub record Counts {T : Type 0} (old new : LinkState) (result : Result T LinkError) : Type 0 where
  pub later : old.faults ≤ new.faults
  pub no_fault : OnOk result (new.faults ≡ old.faults)
  pub cause : IsErrOf result Fault → Rose old.faults new.faults

-- A call sends these bytes to the solver. They may be held back until a flush.
pub record Sends {T : Type 0} (old new : LinkState) (bytes : List ℕ) (result : Result T LinkError) : Type 0 where
  -- Ok sent all of them
  pub ok : OnOk result (new.sent ≡ append_known old.sent bytes)
  -- an error sent a first part of them
  pub err : OnErr result (AppendsPart old.sent new.sent bytes)
  -- nothing is read
  pub same_read : new.was_read ≡ old.was_read
  -- what is to come may change, and is told where it was
  pub told : is_some new.to_come ≡ is_some old.to_come
  -- a link whose answers ended inside a line gives nothing more
  pub closed : IsOver old → new.to_come ≡ Some []
  -- nothing is killed
  pub same_killed : new.killed ≡ old.killed
  pub end : KeepsEnd old.ended new.ended
  pub counts : Counts old new result

-- A flush hands on to the solver what a link held back. Nothing more is sent or read.
pub record HandsOn {T : Type 0} (old new : LinkState) (result : Result T LinkError) : Type 0 where
  pub same_sent : new.sent ≡ old.sent
  pub same_read : new.was_read ≡ old.was_read
  pub same_to_come : new.to_come ≡ old.to_come
  pub same_killed : new.killed ≡ old.killed
  pub end : KeepsEnd old.ended new.ended
  pub counts : Counts old new result

-- A call reads a line of at most `limit` bytes, and appends it to the bytes `before`, which become `after`.
pub record ReadsLine (allows : List ℕ → List ℕ → List ℕ → Type 0) (old new : LinkState) (before after : List ℕ) (limit : ℕ)
    (result : Result LineEnd LinkError) : Type 0 where
  pub piece : List ℕ
  pub appended : after ≡ before ++ piece
  -- the piece, and no other bytes, moved from what is to come to what was read
  pub came : old.to_come ≡ prepend_known piece new.to_come
  pub was_read : new.was_read ≡ append_known old.was_read piece
  pub ending : IfOk result (λ how. EndsAs how piece limit new.to_come)
  -- a line that is given is one that the link allows
  pub allowed : IfOk result (λ how. GivesLine how piece → IsAllowed allows old.sent old.was_read piece)
  pub same_sent : new.sent ≡ old.sent
  pub same_killed : new.killed ≡ old.killed
  pub end : KeepsEnd old.ended new.ended
  pub counts : Counts old new result

-- A call asks a link whether its solver has ended, and how. Nothing changes but the count of faults.
pub record AsksEnd (old new : LinkState) (result : Result Ended LinkError) : Type 0 where
  pub ok : IfOk result (λ answer. IfSome old.ended (λ told. answer ≡ told))
  pub same_sent : new.sent ≡ old.sent
  pub same_read : new.was_read ≡ old.was_read
  pub same_to_come : new.to_come ≡ old.to_come
  pub same_ended : new.ended ≡ old.ended
  pub same_killed : new.killed ≡ old.killed
  pub counts : Counts old new result

-- The solver of a link was killed, and so has ended without a code, where the link tells these.
pub record IsKilled (old new : LinkState) : Type 0 where
  pub killed : new.killed ≡ option_map (λ _. true) old.killed
  pub ended : new.ended ≡ option_map (λ _. Killed) old.ended

-- A call neither killed the solver of a link nor changed how it ended.
pub record IsSpared (old new : LinkState) : Type 0 where
  pub same_killed : new.killed ≡ old.killed
  pub same_ended : new.ended ≡ old.ended

-- A call kills the solver of a link: with Ok it is killed always, and with an error maybe.
pub record Kills {T : Type 0} (old new : LinkState) (result : Result T LinkError) : Type 0 where
  pub ok : OnOk result (IsKilled old new)
  pub err : OnErr result (IsKilled old new ⊎ IsSpared old new)
  pub same_sent : new.sent ≡ old.sent
  pub same_read : new.was_read ≡ old.was_read
  pub same_to_come : new.to_come ≡ old.to_come
  pub counts : Counts old new result
