-- States in which all that is live is well sorted.
use Rattle.std.specs.Prelude.{◌≡◌, ℕ, false, List, Some}
use Rattle.std.specs.List.{AllByRecursion}
use Rattle.law_terms.specs.TypeValues.{Enums, AreEnums}
use Rattle.law_texts.specs.Reading.{Expression}
use Rattle.law_scripts.specs.Script.{Command, Reset, Exit, Push, Pop, Defined, State, Script, run, assertions_of}
use Rattle.law_scripts.specs.Sorts.{entries, expression_sort, bool_sort}
use Rattle.law_scripts.specs.CommandLines.{AreSorted}
use Rattle.law_theorem.specs.Fits.{Stage, FitsAt}

-- A command that takes nothing away and opens no level: any but `reset`, `push`, `pop` and `exit` (SMT-LIB 2.7, chapter 4).
abbrev pub IsLasting : Command → Type 0
IsLasting Reset = ⊥
IsLasting Push = ⊥
IsLasting Pop = ⊥
IsLasting Exit = ⊥
IsLasting c = Unit {0}

-- Each body that is live has its definition's sort, and each assertion the sort Bool, by what is declared in the state. So
-- `define-fun` and `assert` ask for it (SMT-LIB 2.7, chapter 3, Terms and Formulas, and chapter 4).
pub record IsSortedState (s : State) : Type 0 where
  pub bodies : (n : List ℕ) (sort body : Expression) → entries s n ≡ Some (Defined sort body) → expression_sort s body ≡ Some sort
  pub assertions : AllByRecursion (λ e. expression_sort s e ≡ Some bool_sort) (assertions_of s)

-- Where commands take nothing away and leave such a state, each of them is well sorted where it stands: a name that is declared
-- keeps its sort.
abbrev pub SortsGoBack : Type 0
SortsGoBack =
    (cs : List Command) (s t : State) → AllByRecursion IsLasting cs → s.ended ≡ false → run cs s ≡ Some t → IsSortedState t → AreSorted cs s

-- Such a state is left wherever a stage fits a script.
abbrev pub FittingStatesAreSorted : Type 0
FittingStatesAreSorted =
    (enums : Enums) (text : List ℕ) (x : Stage) (state : State) → AreEnums enums → FitsAt enums x state → Script text state →
    IsSortedState state
