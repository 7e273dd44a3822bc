-- What the steps of the program say.
use Rattle.std.specs.Prelude.{map, List}
use Rattle.smt_term.specs.View.{plain_items}
use Rattle.law_jobs.specs.Steps.{PlainStep, AssertStep, PushStep, PopStep, CheckStep, Section as StatedSection, TermsSection, StepsSection}
use Rattle.smt_jobs.specs.declared.steps.BareStep.{BareStep}
use Rattle.smt_jobs.specs.declared.steps.BareStep.TheVariants as bare
use Rattle.smt_jobs.specs.declared.steps.Section.{Section}
use Rattle.smt_jobs.specs.declared.steps.Section.TheVariants.{Terms, Steps}
use Rattle.smt_jobs.specs.declared.steps.Step.{Step}
use Rattle.smt_jobs.specs.declared.steps.Step.TheVariants.{Assert, Push, Pop, Check}
use Rattle.smt_jobs.specs.declared.steps.StepList.{StepList}

-- one step, with what its terms say
abbrev pub plain_step : Step → PlainStep
plain_step (Assert ts) = AssertStep (plain_items ts)
plain_step Push = PushStep
plain_step Pop = PopStep
plain_step Check = CheckStep

-- the steps of a list, in order
abbrev pub plain_steps : StepList → List PlainStep
plain_steps steps = map plain_step steps.items.items

-- a step that has no terms
abbrev pub plain_bare_step : BareStep → PlainStep
plain_bare_step bare.Push = PushStep
plain_bare_step bare.Pop = PopStep
plain_bare_step bare.Check = CheckStep

-- by which section a job gives its steps
abbrev pub plain_section : Section → StatedSection
plain_section Terms = TermsSection
plain_section Steps = StepsSection
