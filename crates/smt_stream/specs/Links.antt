-- What a link to a small solver in memory tells, and what its calls do, exactly.
use Rattle.std.specs.Prelude.{ℕ, pos, ◌≡◌, ◌≢◌, Bool, false, true, if◌then◌else◌, List, ◌++◌, take, drop, IsErrOf, Some, Result}
use Rattle.smt_script.specs.Memory.{counted}
use Rattle.smt_solve.specs.Link.{LinkState}
use Rattle.smt_solve.specs.declared.link.Ended.{Ended}
use Rattle.smt_solve.specs.declared.link.Ended.TheVariants.{Running, Code, Killed}
use Rattle.smt_solve.specs.declared.link.LinkError.{LinkError}
use Rattle.smt_solve.specs.declared.link.LinkError.TheVariants.{Fault, Memory}
use Rattle.law_verdicts.specs.Streams.{MayBeHeard}
use Rattle.smt_stream.specs.declared.link.MiniLink.{MiniLink}
use Rattle.smt_stream.specs.declared.stream.Stage.{Stage}
use Rattle.smt_stream.specs.declared.stream.Stage.TheVariants as stage

-- ---- what it tells

-- the bytes that were sent to it
abbrev pub mini_sent : MiniLink → List ℕ
mini_sent s = s.sent.items

-- all that it answered
abbrev pub mini_answers : MiniLink → List ℕ
mini_answers s = s.answers.items

-- whether there was no memory for a send
abbrev pub mini_broken : MiniLink → Bool
mini_broken s = s.broken

-- how the program ends where its solver stands so
abbrev pub stage_end : Stage → Ended
stage_end stage.Waiting = Running
stage_end stage.Exited = Code (pos 0)
stage_end stage.Stopped = Code (pos 3)

-- how the solver has ended: killed, or as the run of the program ends
abbrev pub mini_end : MiniLink → Ended
mini_end s = if s.killed then Killed else (if s.broken then Running else stage_end s.stream.stage)

-- What it tells of itself: all.
abbrev pub mini_state : MiniLink → LinkState
mini_state s = record {
  sent = Some s.sent.items;
  was_read = Some (take s.at s.answers.items);
  to_come = Some (drop s.at s.answers.items);
  ended = Some (mini_end s);
  killed = Some s.killed;
  faults = s.faults;
}

-- A line may follow where it is the next of what is put for the bytes that were sent.
abbrev pub mini_allows : MiniLink → List ℕ → List ℕ → List ℕ → Type 0
mini_allows s sent was_read line = MayBeHeard sent was_read line

-- ---- what its calls do

-- These bytes were sent, and what is put for them was answered. Nothing else changes but where the stream stands.
pub record SendsMore (old new : MiniLink) (bytes : List ℕ) : Type 0 where
  pub sent : mini_sent new ≡ mini_sent old ++ bytes
  pub put : List ℕ
  pub answers : mini_answers new ≡ mini_answers old ++ put
  pub same_at : new.at ≡ old.at
  pub same_killed : new.killed ≡ old.killed
  pub same_faults : new.faults ≡ old.faults
  pub whole : mini_broken new ≡ false

-- There was no memory for a send: nothing changes but that, and where the stream stands.
pub record IsBroken (old new : MiniLink) : Type 0 where
  pub broken : mini_broken new ≡ true
  pub same_sent : mini_sent new ≡ mini_sent old
  pub same_answers : mini_answers new ≡ mini_answers old
  pub same_at : new.at ≡ old.at
  pub same_killed : new.killed ≡ old.killed
  pub same_faults : new.faults ≡ old.faults

-- A send is a fault exactly where the solver had ended. Where there was no memory there is none for each later send.
pub record SendsAsTold {T : Type 0} (old new : MiniLink) (result : Result T LinkError) : Type 0 where
  pub fault : IsErrOf result Fault → mini_end old ≢ Running
  pub ended : mini_end old ≢ Running → IsErrOf result Fault
  pub memory : IsErrOf result Memory → mini_broken new ≡ true
  pub again : mini_end old ≡ Running → mini_broken old ≡ true → IsErrOf result Memory
  pub counts : IsErrOf result Fault → new.faults ≡ counted old.faults
  pub still : (IsErrOf result Fault → ⊥) → new.faults ≡ old.faults

-- Any other call is no fault, and leaves the count as it was.
pub record NeverFails {T : Type 0} (old new : MiniLink) (result : Result T LinkError) : Type 0 where
  pub no_fault : IsErrOf result Fault → ⊥
  pub same_faults : new.faults ≡ old.faults
  pub same_broken : mini_broken new ≡ mini_broken old
