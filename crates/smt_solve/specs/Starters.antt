-- What a starter of children tells, and what its calls do to it, exactly.
use Rattle.std.specs.Prelude.{ℕ, ◌≡◌, ⊤, List, None, Ok, Err, Result}
use Rattle.std.specs.Process.{command_args, command_program}
use Rattle.std.specs.declared.process.command.Command.{Command}
use Rattle.smt_script.specs.Memory.{counted}
use Rattle.smt_solve.specs.Starter.{StarterState, Starts}
use Rattle.smt_solve.specs.Starter as solver
use Rattle.smt_solve.specs.declared.starter.StartError.{StartError}
use Rattle.smt_solve.specs.declared.starter.StartError.TheVariants.{Fault, Memory}
use Rattle.smt_solve.specs.declared.child_starter.ChildStarter.{ChildStarter}

-- how many starts of a starter of children failed; the count stands still at 2^64 - 1
abbrev pub failed_starts : {R : Type 0} → ChildStarter R → ℕ
failed_starts s = s.failed_starts

-- how many links that had failed came back to a starter of children; the count stands still at 2^64 - 1
abbrev pub link_faults : {R : Type 0} → ChildStarter R → ℕ
link_faults s = s.link_faults

-- What a starter of children tells of itself: its two counts, and nothing else.
abbrev pub child_starter_state : {R L : Type 0} → ChildStarter R → StarterState L
child_starter_state s = record { commands = None; returned = None; failed_starts = failed_starts s; link_faults = link_faults s }

-- Any line may follow on the links of a starter of children: nothing is said of what the children answer.
abbrev pub child_starter_allows : {R : Type 0} → ChildStarter R → List ℕ → List ℕ → List ℕ → Type 0
child_starter_allows s text earlier line = ⊤

-- A starter of children is asked to start a solver by this command.
abbrev pub StartsChild : {R L : Type 0} (old new : ChildStarter R) (command : solver.Command) (result : Result L StartError) → Type 0
StartsChild {L = L} old new command result = Starts {L = L} (child_starter_state old) (child_starter_state new) command result

-- how many starts failed after one more start that gave this result
abbrev pub failed_starts_after : {T : Type 0} → ℕ → Result T StartError → ℕ
failed_starts_after failed (Ok _) = failed
failed_starts_after failed (Err Fault) = counted failed
failed_starts_after failed (Err Memory) = failed

-- A command of the system runs the program of a solver's command with the arguments of that.
pub record RunsCommand {A : Type 0} (command : Command A) (cmd : solver.Command) : Type 0 where
  pub program : command_program command ≡ cmd.program
  pub args : command_args command ≡ cmd.args
