-- For which state of a script the levels of the program stand, and what commands leave of them.
use Rattle.std.specs.Prelude.{◌≡◌, ⊤, Bool, true, false, List, [], ◌∷◌, Option, Some, None, Result, Ok, Err, reverse}
use Rattle.law_scripts.specs.Script.{CheckSat, Command, Exit, GetModel, State, obey, without_level}
use Rattle.law_verdicts.specs.Fragment.{is_within}
use Rattle.smt_mini.specs.declared.error.MiniError.{MiniError}
use Rattle.smt_mini.specs.declared.error.MiniError.TheVariants.{NotScript, Spent, Memory}
use Rattle.smt_mini.specs.declared.levels.Levels.{Levels}
use Rattle.smt_mini.specs.declared.tables.Mark.{Mark}
use Rattle.smt_mini.specs.Tables.{Fits, IsMarked, Table, cut, table_of}

-- The tables stand for a state, and cut at each mark, the newest first, for what `(pop 1)` gives back.
abbrev pub Stacked : Table → List Mark → State → Type 0
Stacked t [] s = Fits t s × (s.below ≡ [])
Stacked t (m ∷ ms) s = Fits t s × IsMarked m t × (u : State) × (without_level s s.below ≡ Some u) × Stacked (cut m t) ms u

-- The levels stand for this state of a script.
abbrev pub StandFor : Levels → State → Type 0
StandFor levels s = Stacked (table_of levels.tables) (reverse levels.marks.items) s

-- A command is refused as no script where it can't be obeyed; want of memory is free.
abbrev pub IsRefused : MiniError → Option State → Type 0
IsRefused NotScript o = o ≡ None
IsRefused Spent o = ⊥
IsRefused Memory o = ⊤

-- The levels stand for what the command leaves, and the script goes on.
abbrev pub Leaves : Levels → Option State → Type 0
Leaves levels None = ⊥
Leaves levels (Some t) = (t.ended ≡ false) × StandFor levels t

-- a command to which nothing is replied, and behind which the script goes on
abbrev pub is_silent : Command → Bool
is_silent CheckSat = false
is_silent GetModel = false
is_silent Exit = false
is_silent c = true

-- a command of the fragment was obeyed, or refused
abbrev pub IsObeyed : {A : Type 0} → Levels → Result A MiniError → Option State → Type 0
IsObeyed new (Ok x) o = Leaves new o
IsObeyed new (Err e) o = IsRefused e o

-- Levels that stood for a state in which a command lies in the fragment stand for what it leaves, or it is refused.
abbrev pub Obeys : {A : Type 0} → Levels → Levels → Command → Result A MiniError → Type 0
Obeys old new c result = (s : State) → StandFor old s → s.ended ≡ false → is_within s c ≡ true → IsObeyed new result (obey c s)
