-- What names and the texts of terms are worth in a script.
use Rattle.std.specs.Prelude.{◌≡◌, ℕ, true, List, Some}
use Rattle.std.specs.List.{AllByRecursion}
use Rattle.law_terms.specs.Plain.{PlainTerm}
use Rattle.law_terms.specs.Interpretations.{IsInterpretation}
use Rattle.law_terms.specs.Meaning.{meaning}
use Rattle.law_terms.specs.Reached.{reached_terms}
use Rattle.law_terms.specs.Tables.{Interpretation}
use Rattle.law_terms.specs.Types.{type_of}
use Rattle.law_terms.specs.TypeValues.{Enums, AreEnums}
use Rattle.law_texts.specs.Reading.{Expression}
use Rattle.law_scripts.specs.Script.{Entry, Constant, Defined, State, Script, name, knows}
use Rattle.law_scripts.specs.Sorts.{entries, expression_sort}
use Rattle.law_scripts.specs.Value.{ScriptInterpretation, expression_value}
use Rattle.law_scripts.specs.Meanings.{is_own}
use Rattle.law_lines.specs.TermTexts.{text_of}
use Rattle.law_lines.specs.NameTables.{Tables}
use Rattle.law_theorem.specs.Carry.{carry}
use Rattle.law_theorem.specs.CarriedInterpretations.{carry_interpretation}
use Rattle.law_theorem.specs.Fits.{Stage, FitsAt}

-- Each declared name has what its command gives it: a constant the interpretation's value, a defined name its body's value,
-- both their sort; and none is built in or a word of the grammar.
pub record NamesLast (j : ScriptInterpretation) (s : State) : Type 0 where
  pub own : (n : List ℕ) (x : Entry) → entries s n ≡ Some x → is_own n ≡ true
  pub bodies : (n : List ℕ) (sort body : Expression) → entries s n ≡ Some (Defined sort body)
      → (knows s body ≡ true) × (expression_value j s (name n) ≡ expression_value j s body) × (expression_sort s (name n) ≡ Some sort)
  pub constants : (n : List ℕ) (sort : Expression) → entries s n ≡ Some (Constant sort)
      → (expression_value j s (name n) ≡ Some (j.constants n)) × (expression_sort s (name n) ≡ Some sort)

-- So it is in the state of each script, in every interpretation.
abbrev pub ScriptNamesLast : Type 0
ScriptNamesLast = (text : List ℕ) (state : State) (j : ScriptInterpretation) → Script text state → NamesLast j state

-- A term has a text, whose value in the carried interpretation is the carried value of the term.
pub record HasText (enums : Enums) (s : Tables) (state : State) (I : Interpretation) (t : PlainTerm) : Type 0 where
  pub text : Expression
  pub is_text : text_of s t ≡ Some text
  pub value : expression_value (carry_interpretation enums s I) state text ≡ Some (carry enums s (type_of t) (meaning I t))

-- So it is for all that is reached, wherever a stage fits a script.
abbrev pub ReachedHaveTexts : Type 0
ReachedHaveTexts =
    (enums : Enums) (text : List ℕ) (x : Stage) (state : State) (I : Interpretation) → AreEnums enums → FitsAt enums x state →
    Script text state → IsInterpretation enums x.terms I
    → AllByRecursion (HasText enums x.tables state I) (reached_terms x.terms)
