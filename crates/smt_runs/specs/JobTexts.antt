-- The text of a job's steps: what an encoder writes for what they assert and for the levels that they open and close, with a line
-- `(check-sat)` for each check.
use Rattle.std.specs.Prelude.{ℕ, ◌+◌, zero, suc, map, List, [], ◌∷◌}
use Rattle.law_terms.specs.TypeValues.{Enums}
use Rattle.law_lines.specs.Line.{spelled_lines}
use Rattle.law_lines.specs.Lines.{EncodeCall, PopCall, PushCall, lines_of_call}
use Rattle.law_lines.specs.NameTables.{Tables}
use Rattle.law_theorem.specs.Fits.{Stages, encoding_of, new_stages, stages_after}
use Rattle.law_theorem.specs.Sessions.{Step, CallStep, LineStep, stages_after_steps, text_of_steps}
use Rattle.law_theorem.specs.WellWritten.{most_for_terms}
use Rattle.law_jobs.specs.Steps.{PlainStep, AssertStep, CheckStep, PopStep, PushStep}
use Rattle.smt_script.specs.CommandTexts.{check_sat_text}

-- the call of an encoder by which a step is written, or the line of a check
abbrev pub session_step : PlainStep → Step
session_step (AssertStep ts) = CallStep (EncodeCall ts)
session_step PushStep = CallStep PushCall
session_step PopStep = CallStep PopCall
session_step CheckStep = LineStep check_sat_text

-- the calls and lines of steps, in order
abbrev pub session_steps : List PlainStep → List Step
session_steps steps = map session_step steps

-- the text of one step behind others that led to these stages
abbrev pub text_of_step : Enums → PlainStep → Stages → List ℕ
text_of_step enums (AssertStep ts) x = spelled_lines (lines_of_call enums (EncodeCall ts) (encoding_of x))
text_of_step enums PushStep x = spelled_lines (lines_of_call enums PushCall (encoding_of x))
text_of_step enums PopStep x = spelled_lines (lines_of_call enums PopCall (encoding_of x))
text_of_step enums CheckStep x = check_sat_text

-- the stages to which one step leads
abbrev pub stages_of_step : Enums → PlainStep → Stages → Stages
stages_of_step enums (AssertStep ts) x = stages_after enums (EncodeCall ts) x
stages_of_step enums PushStep x = stages_after enums PushCall x
stages_of_step enums PopStep x = stages_after enums PopCall x
stages_of_step enums CheckStep x = x

-- the text of steps behind others that led to these stages
abbrev pub text_behind : Enums → List PlainStep → Stages → List ℕ
text_behind enums steps x = text_of_steps enums (session_steps steps) x

-- the stages to which steps lead behind others
abbrev pub stages_behind : Enums → List PlainStep → Stages → Stages
stages_behind enums steps x = stages_after_steps enums (session_steps steps) x

-- The text of a job's steps. Nothing is written for no steps; the datatype of options stands before the first line of an assertion or
-- a level.
abbrev pub text_of_job : Enums → List PlainStep → List ℕ
text_of_job enums steps = text_behind enums steps new_stages

-- the names that live at the end of the text of a job's steps
abbrev pub names_of_job : Enums → List PlainStep → Tables
names_of_job enums steps = (stages_behind enums steps new_stages).now.tables

-- how many steps are checks
abbrev pub checks_in : List PlainStep → ℕ
checks_in [] = zero
checks_in (CheckStep ∷ steps) = suc (checks_in steps)
checks_in (AssertStep ts ∷ steps) = checks_in steps
checks_in (PushStep ∷ steps) = checks_in steps
checks_in (PopStep ∷ steps) = checks_in steps

-- For a step: one command for a level that is opened or closed and for a check; and for an assertion what its terms ask for, one command
-- for each named sort, function and subterm that they reach, and one for each of them.
abbrev pub most_for_step : PlainStep → ℕ
most_for_step (AssertStep ts) = most_for_terms ts
most_for_step PushStep = 1
most_for_step PopStep = 1
most_for_step CheckStep = 1

-- for steps together
abbrev pub most_for_steps : List PlainStep → ℕ
most_for_steps [] = 0
most_for_steps (s ∷ steps) = most_for_step s + most_for_steps steps
