-- A session in hand: what its link tells before conditions are sent to it, and what its `unsat` says of them.
use Rattle.std.specs.Prelude.{◌≡◌, ◌⊎◌, ℕ, IsTrue, is_some, List, [], Ok, Some}
use Rattle.std.specs.Io.KnownBytes.{append_known}
use Rattle.law_terms.specs.Interpretations.{IsInterpretation}
use Rattle.law_terms.specs.Meaning.{AreTrue}
use Rattle.law_terms.specs.Plain.{PlainTerm}
use Rattle.law_terms.specs.Tables.{Interpretation}
use Rattle.law_terms.specs.TypeValues.{Enums, AreEnums}
use Rattle.law_lines.specs.Text.{text}
use Rattle.law_theorem.specs.Conditions.{AreConditions}
use Rattle.smt_script.specs.CommandTexts.{reset_text}
use Rattle.smt_solve.specs.Link.{AllowsOnly, IsOver, IsUnused, LinkState}
use Rattle.smt_solve.specs.Model.{AsksWithModel}
use Rattle.smt_solve.specs.Question.{AsksDecision, Exchanges}
use Rattle.smt_solve.specs.Session.{enable_models_text}
use Rattle.smt_solve.specs.declared.answer.Decision.{Decision}
use Rattle.smt_solve.specs.declared.answer.Decision.TheVariants.{Unsat}
use Rattle.smt_solve.specs.declared.answer.DecisionWithModel.TheVariants.{Unsat as UnsatWith}
use Rattle.law_verdicts.specs.Honesty.{AreAnswersTo, IsHonest}
use Rattle.law_verdicts.specs.Verdicts.{IsBlankScript, logic_text}

-- No interpretation makes all the terms true.
abbrev pub AreNeverTrue : Enums → List PlainTerm → Type 0
AreNeverTrue enums ts = (I : Interpretation) → IsInterpretation enums ts I → AreTrue I ts → ⊥

-- A link tells what it was sent and what was read from it: whole commands that leave nothing declared or asserted, and the
-- answers to them.
pub record IsBlankLink (s : LinkState) : Type 0 where
  pub sent : List ℕ
  pub tells_sent : s.sent ≡ Some sent
  pub answers : List ℕ
  pub tells_read : s.was_read ≡ Some answers
  pub blank : IsBlankScript sent
  pub answered : AreAnswersTo blank.script.commands answers

-- A link was sent these lines, and nothing was read from it.
pub record Takes (old new : LinkState) (lines : List ℕ) : Type 0 where
  pub sent : new.sent ≡ append_known old.sent lines
  pub same_read : new.was_read ≡ old.was_read

-- Whole commands that leave nothing declared or asserted, none of which asks for an answer.
pub record IsPreamble (lines : List ℕ) : Type 0 where
  pub blank : IsBlankScript lines
  pub silent : AreAnswersTo blank.script.commands []

-- A link on which no call was made is blank, where it tells what was sent and read.
abbrev pub UnusedLinksAreBlank : Type 0
UnusedLinksAreBlank = (s : LinkState) → IsUnused s → IsTrue (is_some s.sent) → IsTrue (is_some s.was_read) → IsBlankLink s

-- `(set-logic ALL)` is a preamble, and so is `(set-option :produce-models true)`.
pub record TheseArePreambles : Type 0 where
  pub logic : IsPreamble logic_text
  pub models : IsPreamble enable_models_text

-- A link is honest that allows only what honest links do, as one does that an honest starter gives.
abbrev pub HonestyIsHandedOn : (first second : List ℕ → List ℕ → List ℕ → Type 0) → Type 0
HonestyIsHandedOn first second = AllowsOnly first second → IsHonest second → IsHonest first

-- Behind a preamble a blank link is blank still.
abbrev pub PreamblesKeepBlank : Type 0
PreamblesKeepBlank = (old new : LinkState) (lines : List ℕ) → IsBlankLink old → IsPreamble lines → Takes old new lines → IsBlankLink new

-- A blank link took the text of conditions and nothing else, and is asked next. That question is in turn. So where the link is
-- honest and the answer is `unsat`, no interpretation makes all the conditions true.
abbrev pub SessionsAreBelieved : (allows : List ℕ → List ℕ → List ℕ → Type 0) → Type 0
SessionsAreBelieved allows =
    (enums : Enums) (ts : List PlainTerm) (before asked after : LinkState) → AreEnums enums → AreConditions enums ts
    → IsHonest allows → IsBlankLink before → Takes before asked (text enums ts) → AsksDecision allows asked after (Ok Unsat) →
    AreNeverTrue enums ts

-- The same of the question that asks for a model too.
abbrev pub SessionsWithModelsAreBelieved : (allows : List ℕ → List ℕ → List ℕ → Type 0) → Type 0
SessionsWithModelsAreBelieved allows =
    (enums : Enums) (ts : List PlainTerm) (before asked after : LinkState) → AreEnums enums → AreConditions enums ts
    → IsHonest allows → IsBlankLink before → Takes before asked (text enums ts) → AsksWithModel allows asked after (Ok UnsatWith) →
    AreNeverTrue enums ts

-- A blank link took the text of conditions, was asked, and gave an answer; then `(reset)` was sent. It is blank again, so that who
-- holds it next may believe it as well, unless its answer ended inside a line: then it is over, and answers nothing more.
abbrev pub AskedLinksAreBlankAgain : (allows : List ℕ → List ℕ → List ℕ → Type 0) → Type 0
AskedLinksAreBlankAgain allows =
    (enums : Enums) (ts : List PlainTerm) (d : Decision) (before asked after idle : LinkState) → AreEnums enums → AreConditions enums ts
    → IsBlankLink before → Takes before asked (text enums ts) → AsksDecision allows asked after (Ok d) → IsTrue (is_some after.to_come) →
    Exchanges after idle reset_text [] → IsBlankLink idle ⊎ IsOver after
