-- Whole texts one behind the other.
use Rattle.std.specs.Prelude.{◌≡◌, ℕ, List, ◌++◌, Some}
use Rattle.law_scripts.specs.Script.{Command, HasWholeLines, Holds, Script, State, run}

-- The commands of a text with whole lines and of one behind it follow one another.
abbrev pub TextsJoin : Type 0
TextsJoin =
    (text behind : List ℕ) (cs ds : List Command) → HasWholeLines text → Holds text cs → Holds behind ds → Holds (text ++ behind) (cs ++ ds)

-- So what a script comes to is where the commands behind it begin.
abbrev pub ScriptsJoin : Type 0
ScriptsJoin =
    (text behind : List ℕ) (s : State) (ds : List Command) (t : State) → HasWholeLines text → Script text s → Holds behind ds →
    run ds s ≡ Some t → Script (text ++ behind) t
