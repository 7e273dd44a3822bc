-- What a solver is asked by the steps of a job, and what its answers are worth.
use Rattle.std.specs.Prelude.{ℕ, ◌≡◌, length, List, [], ◌∷◌, ◌++◌}
use Rattle.law_terms.specs.TypeValues.{Enums}
use Rattle.law_theorem.specs.Fits.{Stages, new_stages}
use Rattle.law_jobs.specs.Steps.{PlainStep, AssertStep, CheckStep, PopStep, PushStep, built_steps, current}
use Rattle.smt_solve.specs.Link.{LinkState}
use Rattle.smt_solve.specs.declared.answer.Decision.TheVariants.{Unsat}
use Rattle.law_verdicts.specs.Dialogues.{AnsweredCheck, GaveAllowed, HasAnswered}
use Rattle.law_verdicts.specs.Honesty.{IsHonest}
use Rattle.law_verdicts.specs.InHand.{AreNeverTrue}
use Rattle.smt_runs.specs.JobTexts.{checks_in, stages_of_step, text_of_step}
use Rattle.smt_runs.specs.Meaning.{AreWritable}
use Rattle.law_verdicts.specs.Idle.{TellsAll}

-- These are the checks of steps, in order, behind lines that were sent since the last check: before each check stands the text of the
-- steps since the one before it, and the rest is the text behind the last.
abbrev pub AreAsked : Enums → List PlainStep → Stages → (lines : List ℕ) → List AnsweredCheck → (rest : List ℕ) → Type 0
AreAsked enums [] x lines [] rest = rest ≡ lines
AreAsked enums [] x lines (c ∷ cs) rest = ⊥
AreAsked enums (CheckStep ∷ steps) x lines [] rest = ⊥
AreAsked enums (CheckStep ∷ steps) x lines (c ∷ cs) rest = (c.lines ≡ lines) × AreAsked enums steps x [] cs rest
AreAsked enums (AssertStep ts ∷ steps) x lines cs rest =
    AreAsked enums steps (stages_of_step enums (AssertStep ts) x) (lines ++ text_of_step enums (AssertStep ts) x) cs rest
AreAsked enums (PushStep ∷ steps) x lines cs rest =
    AreAsked enums steps (stages_of_step enums PushStep x) (lines ++ text_of_step enums PushStep x) cs rest
AreAsked enums (PopStep ∷ steps) x lines cs rest =
    AreAsked enums steps (stages_of_step enums PopStep x) (lines ++ text_of_step enums PopStep x) cs rest

-- Each `unsat` among the answers may be believed: no interpretation makes all terms true, as they are written, that are current at its
-- check.
abbrev pub AreBelieved : Enums → List PlainStep → List AnsweredCheck → Type 0
AreBelieved enums steps checks =
    (before behind : List PlainStep) (earlier later : List AnsweredCheck) (c : AnsweredCheck) → steps ≡ before ++ CheckStep ∷ behind
    → checks ≡ earlier ++ c ∷ later → length earlier ≡ checks_in before → c.decision ≡ Unsat → AreNeverTrue enums (current before)

-- Where writable steps were asked of a link that tells what it was sent and read, and it is honest, its answers may be believed.
abbrev pub AnswersAreBelieved : (allows : List ℕ → List ℕ → List ℕ → Type 0) → Type 0
AnswersAreBelieved allows = (enums : Enums) (steps : List PlainStep) (s : LinkState) (checks : List AnsweredCheck) (rest : List ℕ)
    → AreWritable enums steps → AreAsked enums (built_steps steps) new_stages [] checks rest → HasAnswered s checks rest →
    GaveAllowed allows s checks → TellsAll s → IsHonest allows → AreBelieved enums steps checks
