-- SMT-LIB leaves a selector at a value of another constructor to the interpretation. The selectors that the text of conditions
-- leaves open so are those that the conditions leave to theirs.
use Rattle.std.specs.Prelude.{◌≡◌, ℕ, codes, map, List, [], ◌∷◌, unwrap_or}
use Rattle.law_terms.specs.Plain.{OptionType, BoolType, OptionGetOp, PlainTerm, VariableTerm}
use Rattle.law_terms.specs.TypeValues.{Enums, AreEnums}
use Rattle.law_texts.specs.Reading.{Expression}
use Rattle.law_scripts.specs.Script.{State, Script, name, start, run}
use Rattle.law_scripts.specs.Sorts.{entries, bool_sort, option_sort}
use Rattle.law_scripts.specs.Value.{ScriptInterpretation, IsScriptInterpretation, applied_selectors}
use Rattle.law_lines.specs.Command.{commands}
use Rattle.law_lines.specs.Lines.{encode, option_line}
use Rattle.law_lines.specs.NameTables.{no_names}
use Rattle.law_lines.specs.Rows.{unary, condition}
use Rattle.law_theorem.specs.CarriedInterpretations.{GivesReachedNames}
use Rattle.law_theorem.specs.Open.{LeavesOpen}
use Rattle.law_theorem.specs.Fits.{Stage, FitsAt}

-- ---- the laws

-- What a script that fits a stage leaves to an interpretation is what the terms reach: variables, functions, and selectors at
-- the sorts that they are applied to.
abbrev pub SelectorsAreOpen : Type 0
SelectorsAreOpen =
    (enums : Enums) (text : List ℕ) (x : Stage) (state : State) → FitsAt enums x state → Script text state →
    LeavesOpen x.tables x.terms state

-- An interpretation of that script gives values and tables to all of this.
abbrev pub InterpretationsGiveReached : Type 0
InterpretationsGiveReached =
    (enums : Enums) (text : List ℕ) (x : Stage) (state : State) → AreEnums enums → FitsAt enums x state → Script text state →
    (J : ScriptInterpretation) → IsScriptInterpretation J state
    → GivesReachedNames x.tables (entries state) x.terms J

-- ---- examples

-- the selectors that the text of terms leaves open, with the sorts that they are applied to
abbrev pub selected_in : List PlainTerm → List (List ℕ × Expression)
selected_in ts =
    map (λ p. (p.selector, p.sort))
    (applied_selectors (unwrap_or (run (commands (option_line ∷ (encode [] ts no_names).lines)) start) start))

-- what is inside an option of Booleans
abbrev pub inside_option : PlainTerm
inside_option = unary OptionGetOp (VariableTerm (codes "o") (OptionType BoolType)) BoolType

-- `val` at that option, and one selector of IP ranges; the attributes and the datetime of the second example leave nothing open.
abbrev pub TheseAreSelected : Type 0
TheseAreSelected =
    (selected_in (inside_option ∷ []) ≡ (codes "val", option_sort bool_sort) ∷ [])
    × (selected_in condition ≡ (codes "addrV4", name (codes "IPAddr")) ∷ [])
