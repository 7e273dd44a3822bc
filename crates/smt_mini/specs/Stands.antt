-- For which state of the machine a value of the program stands.
use Rattle.std.specs.Prelude.{◌≡◌, Bool, true, false, if◌then◌else◌, Option, Some, None}
use Rattle.std.specs.declared.alloc.Global.{Global}
use Rattle.std.specs.declared.vec.Vec.{Vec}
use Rattle.law_scripts.specs.Script.{State}
use Rattle.law_verdicts.specs.FirstModel.{first_model}
use Rattle.law_verdicts.specs.Machine.{Machine, Reply, blind, model_reply, no_model, shows}
use Rattle.smt_mini.specs.declared.mini.Mini.{Mini}
use Rattle.smt_mini.specs.declared.mini.Phase.{Phase}
use Rattle.smt_mini.specs.declared.mini.Phase.TheVariants.{Inside, Outside, Ended, Spent}
use Rattle.smt_mini.specs.Levels.{StandFor}

-- The truths behind a check that was answered `sat` are those of the first model, and there are none behind anything else.
abbrev pub IsShown : Option (Vec Bool Global) → Bool → State → Type 0
IsShown None shown s = shown ≡ false
IsShown (Some truths) shown s = (shown ≡ true) × (first_model s ≡ Some truths.items)

-- It stands for a machine: all that is declared and asserted is at hand until a command was outside, and from then on whether `exit`
-- came. A value that is spent stands for none.
abbrev pub StandsIn : Phase → Mini → Machine → Type 0
StandsIn Inside mini m = (m.outside ≡ false) × (m.state.ended ≡ false) × IsShown mini.shown m.shown m.state × StandFor mini.levels m.state
StandsIn Outside mini m = (m.outside ≡ true) × (m.state.ended ≡ false)
StandsIn Ended mini m = m.state.ended ≡ true
StandsIn Spent mini m = ⊥

-- The value stands for this state of the machine.
abbrev pub Stands : Mini → Machine → Type 0
Stands mini m = StandsIn mini.phase mini m

-- An earlier command got no reply.
abbrev pub IsSpent : Mini → Type 0
IsSpent mini = mini.phase ≡ Spent

-- the machine behind a check of this state
abbrev pub behind_check : State → Machine
behind_check s = record { state = s; outside = false; shown = shows s }

-- what `get-model` is replied: the first model directly behind `sat`, and else an error
abbrev pub model_or_none : Bool → State → Reply
model_or_none was s = if was then model_reply s (first_model s) else no_model
