-- What a link to a child, a process of the system, tells, and what its calls do to it, exactly.
use Rattle.std.specs.Prelude.{ℕ, ◌≡◌, ⊤, true, ℤ, List, [], IfOk, is_some, option_map, option_and_then, unwrap_or, None, Option, Some, Ok}
use Rattle.std.specs.Prelude.{Err, Result}
use Rattle.std.specs.Io.Buffered.{reader_remaining, writer_buffer, writer_contents}
use Rattle.std.specs.Process.{child_status, exit_code}
use Rattle.std.specs.declared.process.status.ExitStatus.{ExitStatus}
use Rattle.smt_script.specs.Memory.{counted}
use Rattle.smt_solve.specs.Link.{LinkState}
use Rattle.smt_solve.specs.declared.link.Ended.{Ended}
use Rattle.smt_solve.specs.declared.link.Ended.TheVariants.{Running, Code, Killed}
use Rattle.smt_solve.specs.declared.link.LinkError.{LinkError}
use Rattle.smt_solve.specs.declared.link.LinkError.TheVariants.{Fault, Memory}
use Rattle.smt_solve.specs.declared.child_link.ChildLink.{ChildLink}

-- how often a link to a child failed; the count stands still at 2^64 - 1
abbrev pub child_faults : {R P I O E : Type 0} → ChildLink R P I O E → ℕ
child_faults s = s.faults

-- What a link to a child tells: how often it failed, and nothing else.
abbrev pub child_state : {R P I O E : Type 0} → ChildLink R P I O E → LinkState
child_state s = record { sent = None; was_read = None; to_come = None; ended = None; killed = None; faults = child_faults s }

-- Any line may follow on a link to a child: nothing is said of what the child answers.
abbrev pub child_allows : {R P I O E : Type 0} → ChildLink R P I O E → List ℕ → List ℕ → List ℕ → Type 0
child_allows s text earlier line = ⊤

-- the bytes that the input of a link's child was given, and behind them those that are held for it, where the input tells its
-- own
abbrev pub child_commands : {R P I O E : Type 0} → (I → Option (List ℕ)) → ChildLink R P I O E → Option (List ℕ)
child_commands contents s = option_and_then (writer_contents contents) s.commands

-- the bytes that a link holds for its child and has not yet handed on
abbrev pub held_commands : {R P I O E : Type 0} → ChildLink R P I O E → List ℕ
held_commands s = unwrap_or (option_map writer_buffer s.commands) []

-- the bytes that are still to come from a link's child, where the child's output tells them
abbrev pub child_answers : {R P I O E : Type 0} → (O → Option (List ℕ)) → ChildLink R P I O E → Option (List ℕ)
child_answers remaining s = reader_remaining remaining s.answers

-- how many faults a link counts after this error: one more after a fault, and as many after want of memory
abbrev pub faults_with : ℕ → LinkError → ℕ
faults_with faults Fault = counted faults
faults_with faults Memory = faults

-- how many faults a link counts after a call that gave this result
abbrev pub faults_after : {T : Type 0} → ℕ → Result T LinkError → ℕ
faults_after faults (Ok _) = faults
faults_after faults (Err error) = faults_with faults error

-- how a child ended that has this exit code, where the end by a signal leaves none
abbrev pub end_by_code : Option ℤ → Ended
end_by_code None = Killed
end_by_code (Some code) = Code code

-- how a child ended that has this status, or that it runs where it has no status yet
abbrev pub end_by_status : Option ExitStatus → Ended
end_by_status None = Running
end_by_status (Some status) = end_by_code (exit_code status)

-- how the child of a link ended, by what a call was told; it counts as running until a call was told its end
abbrev pub child_end : {R P I O E : Type 0} → ChildLink R P I O E → Ended
child_end s = end_by_status (child_status s.child)

-- A call was told that the child of this link has ended.
abbrev pub HasEnded : {R P I O E : Type 0} → ChildLink R P I O E → Type 0
HasEnded s = is_some (child_status s.child) ≡ true

-- A call asks a link how its child ended: Ok gives how, and the link keeps an end that it was told.
pub record TellsEnd {R P I O E : Type 0} (old new : ChildLink R P I O E) (result : Result Ended LinkError) : Type 0 where
  pub told : IfOk result (λ end. end ≡ child_end new)
  -- what a call was told stays so
  pub again : HasEnded old → result ≡ Ok (child_end old)
