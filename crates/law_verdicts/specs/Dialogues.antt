-- A dialogue with a solver: a script that grows, on which the solver is asked several times, and what each answer says.
use Rattle.std.specs.Prelude.{◌≤◌, ◌≡◌, ◌⊎◌, ⊤, ℕ, suc, false, length, codes, is_some, IfSome, IsTrue, List, [], ◌∷◌, ◌++◌}
use Rattle.std.specs.List.{AllByRecursion, concat}
use Rattle.law_terms.specs.TypeValues.{Enums, AreEnums}
use Rattle.law_theorem.specs.Fits.{new_stages}
use Rattle.law_theorem.specs.Sessions.{Step, CallStep, LineStep, AreStepsOfConditions, stages_after_steps, text_of_steps}
use Rattle.smt_script.specs.CommandTexts.{check_sat_text}
use Rattle.smt_solve.specs.Answers.{StripsTo, decision_word, line_limit}
use Rattle.smt_solve.specs.Link.{IsLine, IsOver, LinkState}
use Rattle.smt_solve.specs.declared.answer.Decision.{Decision}
use Rattle.law_verdicts.specs.Honesty.{IsInTurn, IsTrueOf}
use Rattle.law_verdicts.specs.InHand.{AreNeverTrue}
use Rattle.law_verdicts.specs.Verdicts.{logic_text}

-- ---- what a link tells of a dialogue

-- A check that was answered: the lines that were sent before its `(check-sat)`, the line that was read, and what it decides.
pub record AnsweredCheck : Type 0 where
  pub lines : List ℕ
  pub answer : List ℕ
  pub decision : Decision

-- what is sent for these checks, in order
abbrev pub sent_for : List AnsweredCheck → List ℕ
sent_for [] = []
sent_for (c ∷ cs) = c.lines ++ (check_sat_text ++ sent_for cs)

-- what is read for them, in order
abbrev pub read_for : List AnsweredCheck → List ℕ
read_for [] = []
read_for (c ∷ cs) = c.answer ++ read_for cs

-- The line that was read is no longer than lines may be and is the word of the decision, blanks at its ends aside.
abbrev pub SaysDecision : AnsweredCheck → Type 0
SaysDecision c = (length c.answer ≤ line_limit) × StripsTo c.answer (decision_word c.decision)

-- The line that was read ends with its line feed.
abbrev pub EndsItsLine : AnsweredCheck → Type 0
EndsItsLine c = IsLine c.answer

-- Each answer is one that may follow what was sent and read before it, where these were sent and read before the first.
abbrev pub AreAllowed : (allows : List ℕ → List ℕ → List ℕ → Type 0) → (sent was_read : List ℕ) → List AnsweredCheck → Type 0
AreAllowed allows sent was_read [] = ⊤
AreAllowed allows sent was_read (c ∷ cs) =
    allows (sent ++ (c.lines ++ check_sat_text)) was_read c.answer
    × AreAllowed allows (sent ++ (c.lines ++ check_sat_text)) (was_read ++ c.answer) cs

-- Each answer that has another behind it ends with its line feed.
abbrev pub AreLinesButLast : List AnsweredCheck → Type 0
AreLinesButLast [] = ⊤
AreLinesButLast (c ∷ []) = ⊤
AreLinesButLast (c ∷ (d ∷ cs)) = EndsItsLine c × AreLinesButLast (d ∷ cs)

-- Each answer ends with its line feed, or the last one does not and nothing more comes.
abbrev pub AreLinesUntilOver : LinkState → List AnsweredCheck → Type 0
AreLinesUntilOver s checks = AllByRecursion EndsItsLine checks ⊎ (AreLinesButLast checks × IsOver s)

-- By what a link tells, it was sent `(set-logic ALL)`, these checks and then the rest, and read their answers and nothing else. The
-- solver was not killed.
pub record HasAnswered (s : LinkState) (checks : List AnsweredCheck) (rest : List ℕ) : Type 0 where
  pub sent : IfSome s.sent (λ text. text ≡ logic_text ++ (sent_for checks ++ rest))
  pub was_read : IfSome s.was_read (λ bytes. bytes ≡ read_for checks)
  pub says : AllByRecursion SaysDecision checks
  -- where the link tells what it read and whether more is to come
  pub lines : IsTrue (is_some s.was_read) → IsTrue (is_some s.to_come) → AreLinesUntilOver s checks
  pub spared : IfSome s.killed (λ killed. killed ≡ false)

-- Where a link tells what it was sent and what was read, it gave to these checks only answers that are allowed there.
abbrev pub GaveAllowed : (allows : List ℕ → List ℕ → List ℕ → Type 0) → LinkState → List AnsweredCheck → Type 0
GaveAllowed allows s checks = IsTrue (is_some s.sent) → IsTrue (is_some s.was_read) → AreAllowed allows logic_text [] checks

-- ---- what an answer is worth

-- Each line beside the calls is `(check-sat)`.
abbrev pub HasOnlyChecks : List Step → Type 0
HasOnlyChecks [] = ⊤
HasOnlyChecks (CallStep c ∷ steps) = HasOnlyChecks steps
HasOnlyChecks (LineStep line ∷ steps) = (line ≡ check_sat_text) × HasOnlyChecks steps

-- how many lines stand beside the calls
abbrev pub lines_beside : List Step → ℕ
lines_beside [] = 0
lines_beside (CallStep c ∷ steps) = lines_beside steps
lines_beside (LineStep line ∷ steps) = suc (lines_beside steps)

-- The steps of a dialogue before a check: calls by which conditions are encoded, and checks, each of which was answered by a line.
pub record IsDialogue (enums : Enums) (steps : List Step) (answers : List (List ℕ)) : Type 0 where
  -- The members of each enum type ascend.
  pub enum_types : AreEnums enums
  pub conditions : AreStepsOfConditions enums steps new_stages
  pub checks : HasOnlyChecks steps
  pub each_answered : length answers ≡ lines_beside steps
  pub lines : AllByRecursion IsLine answers

-- what was sent where the check behind these steps is asked
abbrev pub asked_behind : Enums → List Step → List ℕ
asked_behind enums steps = logic_text ++ (text_of_steps enums steps new_stages ++ check_sat_text)

-- The check behind the steps of a dialogue is in turn, where its answers were read.
abbrev pub DialogueChecksAreInTurn : Type 0
DialogueChecksAreInTurn =
    (enums : Enums) (steps : List Step) (answers : List (List ℕ)) → IsDialogue enums steps answers →
    IsInTurn (asked_behind enums steps) (concat answers)

-- So where a line that tells the truth says `unsat` there, no interpretation makes all terms true that are encoded at the levels
-- which are open then.
abbrev pub DialoguesAreBelieved : Type 0
DialoguesAreBelieved = (enums : Enums) (steps : List Step) (answers : List (List ℕ)) (line : List ℕ) → IsDialogue enums steps answers
    → IsTrueOf (asked_behind enums steps) (concat answers) line → StripsTo line (codes "unsat") →
    AreNeverTrue enums (stages_after_steps enums steps new_stages).now.terms
