use Rattle.std.proofs.Common.{drop}
use Rattle.std.specs.Prelude.{IsTrue}
use Rattle.law_jobs.specs.Steps.{current}
use Rattle.smt_nodes.specs.declared.interner.Interner.{Interner}
use Rattle.smt_jobs.specs.Numbers.{all_steps_stand, steps_by}
use Rattle.smt_blast.specs.Current.{LeadsTo}
use Rattle.smt_blast.proofs.current.current_ids.Given as goal

abbrev pub invariant-loop-step : goal.invariant-loop-step
invariant-loop-step l = (nodes : Interner) → IsTrue (all_steps_stand nodes l.steps) → LeadsTo nodes l.current (steps_by nodes (drop l.step-index l.steps)) (current (steps_by nodes l.steps))
