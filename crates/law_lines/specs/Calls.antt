-- Whether a pop has a push that it takes back, and the state of a script at a level.
use Rattle.std.specs.Prelude.{false, List, [], ◌∷◌}
use Rattle.law_scripts.specs.Script.{Level, State}
use Rattle.law_lines.specs.NameTables.{Tables}

-- some push is open, by the tables of the moments of the open pushes
abbrev pub HasBelow : List Tables → Type 0
HasBelow [] = ⊥
HasBelow (t ∷ ts) = Unit {0}

-- the state of a script that is left with a level and those below it
abbrev pub back_at : Level → List Level → State
back_at l ls = record { last = l; below = ls; ended = false }
