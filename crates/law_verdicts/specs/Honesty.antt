-- Which links to solvers are honest: they say `unsat` only of scripts without a model.
use Rattle.std.specs.Prelude.{◌≡◌, ℕ, List, [], ◌∷◌, ◌++◌, codes}
use Rattle.std.specs.List.{AllByRecursion, concat}
use Rattle.smt_script.specs.CommandTexts.{check_sat_text}
use Rattle.law_scripts.specs.Script.{Command, CheckSat, GetModel, Holds, Script, State, HasWholeLines}
use Rattle.law_scripts.specs.Value.{IsModel, IsScriptInterpretation, ScriptInterpretation}
use Rattle.smt_solve.specs.Answers.{StripsTo, closing, opening}
use Rattle.smt_solve.specs.Link.{IsLine}
use Rattle.smt_solve.specs.Model.{AreInner}

-- The bytes are the lines of a model: from a line that is `(` to the next that is `)`, blanks at the ends of lines aside.
pub record AreModelLines (bytes : List ℕ) : Type 0 where
  pub first : List ℕ
  pub inner : List (List ℕ)
  pub last : List ℕ
  pub whole : bytes ≡ first ++ concat (inner ++ last ∷ [])
  pub lines : AllByRecursion IsLine (first ∷ (inner ++ last ∷ []))
  pub opens : StripsTo first opening
  pub between : AreInner inner
  pub closes : StripsTo last closing

-- The bytes are the answers to these commands, in order: one line to each `check-sat`, and a model to each `get-model`
-- (SMT-LIB 2.7, chapter 4, Responses).
abbrev pub AreAnswersTo : List Command → List ℕ → Type 0
AreAnswersTo [] bytes = bytes ≡ []
AreAnswersTo (CheckSat ∷ commands) bytes =
    (line : List ℕ) × (rest : List ℕ) × (bytes ≡ line ++ rest) × IsLine line × AreAnswersTo commands rest
AreAnswersTo (GetModel ∷ commands) bytes =
    (model : List ℕ) × (rest : List ℕ) × (bytes ≡ model ++ rest) × AreModelLines model × AreAnswersTo commands rest
AreAnswersTo (command ∷ commands) bytes = AreAnswersTo commands bytes

-- A check is in turn: the text that was sent ends with its `(check-sat)`, the lines before it are whole, and what was read
-- answers the commands of these lines.
pub record IsInTurn (sent was_read : List ℕ) : Type 0 where
  pub before : List ℕ
  pub asked : sent ≡ before ++ check_sat_text
  pub whole : HasWholeLines before
  pub commands : List Command
  pub holds : Holds before commands
  pub answered : AreAnswersTo commands was_read

-- The text is a script, and no interpretation of it is a model.
pub record HasNoModel (text : List ℕ) : Type 0 where
  pub state : State
  pub script : Script text state
  pub no_model : (J : ScriptInterpretation) → IsScriptInterpretation J state → IsModel J state → ⊥

-- The line tells the truth: it says `unsat` to a check in turn only where the text that was sent has no model.
abbrev pub IsTrueOf : (sent was_read line : List ℕ) → Type 0
IsTrueOf sent was_read line = StripsTo line (codes "unsat") → IsInTurn sent was_read → HasNoModel sent

-- A link is honest, by the relation of the lines that it may give behind what was sent and read: each of them tells the truth.
abbrev pub IsHonest : (allows : List ℕ → List ℕ → List ℕ → Type 0) → Type 0
IsHonest allows = (sent was_read line : List ℕ) → allows sent was_read line → IsTrueOf sent was_read line
