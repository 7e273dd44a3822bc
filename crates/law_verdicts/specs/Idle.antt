-- Links that nobody holds: what they tell between two questions, and what the next question to one is worth.
use Rattle.std.specs.Prelude.{◌≡◌, ◌⊎◌, ℕ, false, IfSome, IsTrue, is_some, List, [], ◌++◌}
use Rattle.law_terms.specs.Plain.{PlainTerm}
use Rattle.law_terms.specs.TypeValues.{Enums, AreEnums}
use Rattle.law_lines.specs.Text.{text}
use Rattle.law_theorem.specs.Conditions.{AreConditions}
use Rattle.smt_script.specs.CommandTexts.{reset_text}
use Rattle.smt_solve.specs.Answers.{decision_word}
use Rattle.smt_solve.specs.Link.{IsOver, IsUnused, LinkState}
use Rattle.smt_solve.specs.Question.{Answers, Exchanges, Spares, TellsToComeAlike}
use Rattle.smt_solve.specs.declared.answer.Decision.{Decision}
use Rattle.smt_solve.specs.declared.answer.Decision.TheVariants.{Unsat}
use Rattle.law_verdicts.specs.Honesty.{IsHonest, IsInTurn}
use Rattle.law_verdicts.specs.InHand.{AreNeverTrue, IsBlankLink}
use Rattle.law_verdicts.specs.Verdicts.{IsBlankScript, question_of}

-- A link tells what it was sent, what was read from it, and what is to come.
pub record TellsAll (s : LinkState) : Type 0 where
  pub sent : IsTrue (is_some s.sent)
  pub was_read : IsTrue (is_some s.was_read)
  pub to_come : IsTrue (is_some s.to_come)

-- A link is idle: the solver was not killed, and what it was sent leaves nothing declared or asserted. Where the link tells all, what
-- was read answers the commands that it was sent, or the answers have ended inside a line, so that nothing more comes.
pub record IsIdleLink (s : LinkState) : Type 0 where
  pub spared : IfSome s.killed (λ killed. killed ≡ false)
  pub sent : IfSome s.sent IsBlankScript
  pub answered : TellsAll s → IsBlankLink s ⊎ IsOver s

-- A link was asked whether a script has a model: it was sent the question alone, and answered by one line that decides so. Its answers
-- had not ended inside a line before, and what is to come is told after it where it was told before.
pub record AnswersQuestion (allows : List ℕ → List ℕ → List ℕ → Type 0) (old new : LinkState) (script : List ℕ) (d : Decision) :
    Type 0 where
  pub answer : Answers allows old new (question_of script) (decision_word d)
  pub told : TellsToComeAlike old new
  pub went_on : IsOver old → ⊥

-- A link was sent `(reset)` with its LF (SMT-LIB 2.7, chapter 4), and nothing was read or killed. What is to come is told where it was,
-- and it is nothing where the answers had ended inside a line.
pub record IsReset (old new : LinkState) : Type 0 where
  pub exchanged : Exchanges old new reset_text []
  pub spared : Spares old new
  pub told : TellsToComeAlike old new
  pub over : IsOver old → IsOver new

-- A link on which no call was made is idle.
abbrev pub UnusedLinksAreIdle : Type 0
UnusedLinksAreIdle = (s : LinkState) → IsUnused s → IsIdleLink s

-- The question about conditions is in turn on an idle link that tells all and whose answers have not ended inside a line.
abbrev pub IdleChecksAreInTurn : Type 0
IdleChecksAreInTurn =
    (enums : Enums) (ts : List PlainTerm) (s : LinkState) → AreConditions enums ts → IsIdleLink s → TellsAll s → (IsOver s → ⊥)
    → (b : IsBlankLink s) × IsInTurn (b.sent ++ question_of (text enums ts)) b.answers

-- So where such a link is honest and answers `unsat`, no interpretation makes all the conditions true.
abbrev pub IdleLinksAreBelieved : (allows : List ℕ → List ℕ → List ℕ → Type 0) → Type 0
IdleLinksAreBelieved allows = (enums : Enums) (ts : List PlainTerm) (before after : LinkState) → AreEnums enums → AreConditions enums ts
    → IsHonest allows → IsIdleLink before → TellsAll before → AnswersQuestion allows before after (text enums ts) Unsat →
    AreNeverTrue enums ts

-- An idle link was asked about conditions and answered; then `(reset)` was sent. It is idle again.
abbrev pub AskedLinksAreIdleAgain : (allows : List ℕ → List ℕ → List ℕ → Type 0) → Type 0
AskedLinksAreIdleAgain allows =
    (enums : Enums) (ts : List PlainTerm) (d : Decision) (before after idle : LinkState) → AreEnums enums → AreConditions enums ts
    → IsIdleLink before → AnswersQuestion allows before after (text enums ts) d → IsReset after idle → IsIdleLink idle
