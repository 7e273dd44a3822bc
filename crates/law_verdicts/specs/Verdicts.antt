-- What an honest solver's verdict is worth.
use Rattle.std.specs.Prelude.{ℕ, List, [], ◌++◌, codes, ⊤}
use Rattle.law_terms.specs.Interpretations.{IsInterpretation}
use Rattle.law_terms.specs.Plain.{PlainTerm}
use Rattle.law_terms.specs.Tables.{Interpretation}
use Rattle.law_terms.specs.TypeValues.{Enums, AreEnums}
use Rattle.law_theorem.specs.Conditions.{AreConditions}
use Rattle.law_theorem.specs.Headline.{Headline}
use Rattle.law_terms.specs.Meaning.{AreTrue}
use Rattle.law_lines.specs.NameTables.{Tables}
use Rattle.law_lines.specs.Text.{text}
use Rattle.smt_script.specs.CommandTexts.{check_sat_text, set_logic_text}
use Rattle.law_scripts.specs.Script.{Script, HasWholeLines, start}
use Rattle.smt_solve.specs.Answers.{StripsTo}
use Rattle.law_verdicts.specs.Honesty.{IsHonest, IsInTurn, IsTrueOf}

-- `(set-logic ALL)`, by which a solver is told that any of its theories may come
abbrev pub logic_text : List ℕ
logic_text = set_logic_text (codes "ALL")

-- what asks a new solver whether the script of these bytes has a model
abbrev pub question_of : List ℕ → List ℕ
question_of script = logic_text ++ (script ++ check_sat_text)

-- The text of conditions holds no question. So the one that is asked behind it is in turn, where nothing was read before.
abbrev pub ChecksAreInTurn : Type 0
ChecksAreInTurn =
    (enums : Enums) (ts : List PlainTerm) → AreEnums enums → AreConditions enums ts → IsInTurn (question_of (text enums ts)) []

-- A script that declares and asserts nothing.
pub record IsBlankScript (bytes : List ℕ) : Type 0 where
  pub whole : HasWholeLines bytes
  pub script : Script bytes start

-- `(set-logic ALL)` is one.
abbrev pub LogicIsBlank : Type 0
LogicIsBlank = IsBlankScript logic_text

-- Behind a script that declares and asserts nothing the script of terms was sent, and then `(check-sat)`. That is in turn, and
-- a line that tells the truth says `unsat`. Then no interpretation makes all the terms true.
abbrev pub UnsatIsBelieved : Type 0
UnsatIsBelieved =
    (enums : Enums) (s : Tables) (ts : List PlainTerm) (before script was_read line : List ℕ) → IsBlankScript before →
    Headline enums s ts script
    → IsInTurn (before ++ (script ++ check_sat_text)) was_read → IsTrueOf (before ++ (script ++ check_sat_text)) was_read line →
    StripsTo line (codes "unsat")
    → (I : Interpretation) → IsInterpretation enums ts I → AreTrue I ts → ⊥

-- A link that gives no line is honest.
abbrev pub SilenceIsHonest : Type 0
SilenceIsHonest = IsHonest (λ sent was_read line. ⊥)

-- A link that may give any line is not: it may say `unsat` where nothing is asserted.
abbrev pub AnyLineIsNotHonest : Type 0
AnyLineIsNotHonest = IsHonest (λ sent was_read line. ⊤) → ⊥
