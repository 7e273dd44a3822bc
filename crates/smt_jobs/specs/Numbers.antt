-- The terms and the steps for which numbers stand.
use Rattle.std.specs.Prelude.{Bool, true, List, [], is_some, map, unwrap_or}
use Rattle.std.specs.List.{list_all}
use Rattle.law_terms.specs.Meanings.{meanings}
use Rattle.law_terms.specs.Plain.{PlainTerm}
use Rattle.law_jobs.specs.Steps.{PlainStep, AssertStep, PushStep, PopStep, CheckStep}
use Rattle.smt_nodes.specs.Interned.{nodes_of}
use Rattle.smt_nodes.specs.Kinds.{terms_at}
use Rattle.smt_nodes.specs.View.{places_of}
use Rattle.smt_nodes.specs.declared.id.NodeId.{NodeId}
use Rattle.smt_nodes.specs.declared.interner.Interner.{Interner}
use Rattle.smt_jobs.specs.declared.numbered.NumberedStep.{NumberedStep}
use Rattle.smt_jobs.specs.declared.numbered.NumberedStep.TheVariants.{Assert, Push, Pop, Check}

-- the terms for which these numbers stand, in order; no terms at all where one of them stands for none
abbrev pub terms_of : Interner → List NodeId → List PlainTerm
terms_of nodes ids = unwrap_or (terms_at (meanings (nodes_of nodes)) (places_of ids)) []

-- each of these numbers stands for a term
abbrev pub all_stand : Interner → List NodeId → Bool
all_stand nodes ids = is_some (terms_at (meanings (nodes_of nodes)) (places_of ids))

-- the step with the terms for which its numbers stand
abbrev pub step_by : Interner → NumberedStep → PlainStep
step_by nodes (Assert ids) = AssertStep (terms_of nodes ids.items)
step_by nodes Push = PushStep
step_by nodes Pop = PopStep
step_by nodes Check = CheckStep

-- each number of the step stands for a term
abbrev pub step_stands : Interner → NumberedStep → Bool
step_stands nodes (Assert ids) = all_stand nodes ids.items
step_stands nodes Push = true
step_stands nodes Pop = true
step_stands nodes Check = true

-- the steps with the terms for which their numbers stand, in order
abbrev pub steps_by : Interner → List NumberedStep → List PlainStep
steps_by nodes steps = map (step_by nodes) steps

-- each number of these steps stands for a term
abbrev pub all_steps_stand : Interner → List NumberedStep → Bool
all_steps_stand nodes steps = list_all (step_stands nodes) steps
