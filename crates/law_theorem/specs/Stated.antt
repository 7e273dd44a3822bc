-- The main theorem of stated texts.
use Rattle.std.specs.Prelude.{List}
use Rattle.law_terms.specs.Plain.{PlainTerm}
use Rattle.law_terms.specs.TypeValues.{Enums, AreEnums}
use Rattle.law_lines.specs.Lines.{Call, fresh}
use Rattle.law_lines.specs.Text.{text, names, text_of_calls}
use Rattle.law_theorem.specs.Conditions.{AreConditions, AreCallsOfConditions}
use Rattle.law_theorem.specs.Fits.{Fits, new_stages, stages_after_calls}
use Rattle.law_theorem.specs.Headline.{Headline}

-- Conditions: typed Boolean terms, formed and without fault, over enum types whose members ascend. Of their stated text and
-- names the main theorem holds.
abbrev pub ConditionsAreTheirScripts : Type 0
ConditionsAreTheirScripts =
    (enums : Enums) (ts : List PlainTerm) → AreEnums enums → AreConditions enums ts → Headline enums (names enums ts) ts (text enums ts)

-- The stated text of a list of calls fits what they leave, so its state represents the terms of the open levels.
abbrev pub StatedCallsFit : Type 0
StatedCallsFit =
    (enums : Enums) (cs : List Call) → AreEnums enums → AreCallsOfConditions enums cs fresh →
    Fits enums (text_of_calls enums cs) (stages_after_calls enums cs new_stages)
