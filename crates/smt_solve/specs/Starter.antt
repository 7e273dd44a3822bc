-- What a starter of solvers tells, and what its calls do to it.
use Rattle.std.specs.Prelude.{ℕ, ◌<◌, ◌≤◌, ◌≡◌, ◌⊎◌, List, [], ◌∷◌, ◌++◌, IsErrOf, IsOkUnless, OnOk, OnErr, Option, Result}
use Rattle.std.specs.Option.{option_map}
use Rattle.std.specs.Rc.{rc_str_bytes}
use Rattle.law_texts.specs.SharedTexts.{texts}
use Rattle.smt_script.specs.Memory.{counted}
use Rattle.smt_script.specs.Sink.{Rose}
use Rattle.smt_solve.specs.declared.command.SolverCommand.{SolverCommand}
use Rattle.smt_solve.specs.declared.command.TextList.{TextList}
use Rattle.smt_solve.specs.declared.starter.StartError.{StartError}
use Rattle.smt_solve.specs.declared.starter.StartError.TheVariants.{Fault, Memory}

-- the program of a solver, and the arguments that it is started with
pub record Command : Type 0 where
  pub program : List ℕ
  pub args : List (List ℕ)

-- the texts of a list as bytes, in order
abbrev pub texts_in : TextList → List (List ℕ)
texts_in list = texts list.items.items

-- the program and the arguments of a command as bytes
abbrev pub command_of : SolverCommand → Command
command_of c = record { program = rc_str_bytes c.program; args = texts_in c.args }

-- What a starter of solvers, whose links are of type `L`, tells of itself. What is `None` is not told.
pub record StarterState (L : Type 0) : Type 0 where
  -- the commands that the starter was asked for, in their order
  pub commands : Option (List Command)
  -- the links that came back, in their order
  pub returned : Option (List L)
  -- how many starts failed; the count stands still at 2^64 - 1
  pub failed_starts : ℕ
  -- how many links came back that had failed; the count stands still at 2^64 - 1
  pub link_faults : ℕ

-- a list that is told, with one more member at its end
abbrev pub add_told : {X : Type 0} → Option (List X) → X → Option (List X)
add_told told x = option_map (λ xs. xs ++ x ∷ []) told

-- A starter is asked to start a solver by this command.
pub record Starts {L T : Type 0} (old new : StarterState L) (command : Command) (result : Result T StartError) : Type 0 where
  pub ok : OnOk result (new.commands ≡ add_told old.commands command)
  pub fault : IsErrOf result Fault → new.commands ≡ add_told old.commands command
  pub memory : IsErrOf result Memory → (new.commands ≡ add_told old.commands command) ⊎ (new.commands ≡ old.commands)
  pub same_returned : new.returned ≡ old.returned
  pub same_link_faults : new.link_faults ≡ old.link_faults
  -- the count of failed starts never falls
  pub later : old.failed_starts ≤ new.failed_starts
  -- a fault comes only where it rose
  pub cause : IsErrOf result Fault → Rose old.failed_starts new.failed_starts

-- A starter is given this link back, which has failed `faults` times.
pub record Finishes {L T : Type 0} (old new : StarterState L) (link : L) (faults : ℕ) (result : Result T StartError) : Type 0 where
  pub ok : OnOk result (new.returned ≡ add_told old.returned link)
  pub err : OnErr result (new.returned ≡ old.returned)
  pub refusal : IsOkUnless result Memory
  pub same_commands : new.commands ≡ old.commands
  pub same_failed_starts : new.failed_starts ≡ old.failed_starts
  -- the count of link faults rises exactly where the link has failed
  pub faultless : faults ≡ 0 → new.link_faults ≡ old.link_faults
  pub faulty : 0 < faults → new.link_faults ≡ counted old.link_faults
