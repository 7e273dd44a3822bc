-- What goes to a solver in one session: the lines of calls of an encoder, and between them lines that change nothing, as `(check-sat)`.
use Rattle.std.specs.Prelude.{ℕ, List, [], ◌∷◌, ◌++◌, ◌⊎◌}
use Rattle.law_terms.specs.TypeValues.{Enums}
use Rattle.law_scripts.specs.Script.{Command}
use Rattle.law_scripts.specs.Written.{IsLine}
use Rattle.law_lines.specs.Line.{spelled_lines}
use Rattle.law_lines.specs.Lines.{Call, lines_of_call}
use Rattle.law_theorem.specs.Conditions.{IsCallOfConditions}
use Rattle.law_theorem.specs.Fits.{Stages, Fits, IsIdle, encoding_of, stages_after}
use Rattle.law_theorem.specs.Headline.{Headline}

-- A step of a session: a call of the encoder, or a line that is put beside its lines.
pub data Step : Type 0 where
  CallStep : Call → Step
  LineStep : (line : List ℕ) → Step

-- The line is a comment, or one command that leaves each state as it is, as `(check-sat)` and `(get-model)` (SMT-LIB 2.7, chapter 4,
-- "Commands").
abbrev pub ChangesNothing : List ℕ → Type 0
ChangesNothing line = IsLine line [] ⊎ ((c : Command) × IsIdle c × IsLine line (c ∷ []))

-- the bytes of the steps of a session, one after the other
abbrev pub text_of_steps : Enums → List Step → Stages → List ℕ
text_of_steps enums [] x = []
text_of_steps enums (CallStep c ∷ steps) x =
    spelled_lines (lines_of_call enums c (encoding_of x)) ++ text_of_steps enums steps (stages_after enums c x)
text_of_steps enums (LineStep line ∷ steps) x = line ++ text_of_steps enums steps x

-- what the steps of a session make of stages: its calls alone change them
abbrev pub stages_after_steps : Enums → List Step → Stages → Stages
stages_after_steps enums [] x = x
stages_after_steps enums (CallStep c ∷ steps) x = stages_after_steps enums steps (stages_after enums c x)
stages_after_steps enums (LineStep line ∷ steps) x = stages_after_steps enums steps x

-- What is encoded are conditions, what is popped was pushed, and the lines beside change nothing.
abbrev pub AreStepsOfConditions : Enums → List Step → Stages → Type 0
AreStepsOfConditions enums [] x = Unit {0}
AreStepsOfConditions enums (CallStep c ∷ steps) x =
    IsCallOfConditions enums c (encoding_of x) × AreStepsOfConditions enums steps (stages_after enums c x)
AreStepsOfConditions enums (LineStep line ∷ steps) x = ChangesNothing line × AreStepsOfConditions enums steps x

-- The steps of a session keep that a text and stages fit.
abbrev pub SessionsKeepFit : Type 0
SessionsKeepFit = (enums : Enums) (text : List ℕ) (x : Stages) (steps : List Step) → Fits enums text x → AreStepsOfConditions enums steps x
    → Fits enums (text ++ text_of_steps enums steps x) (stages_after_steps enums steps x)

-- Wherever a text and stages fit, the main theorem holds of the text, the names that live, and the terms of all levels in order: the
-- text is a script, and its models are exactly the interpretations that make all these terms true.
abbrev pub FittingTextsAreScripts : Type 0
FittingTextsAreScripts = (enums : Enums) (text : List ℕ) (x : Stages) → Fits enums text x → Headline enums x.now.tables x.now.terms text
