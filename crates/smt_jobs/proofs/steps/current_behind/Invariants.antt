use Rattle.std.proofs.Common.{drop, map}
use Rattle.smt_term.specs.View.{plain_term}
use Rattle.smt_jobs.specs.StepView.{plain_step}
use Rattle.smt_jobs.proofs.Levels.{IsCurrent}
use Rattle.smt_jobs.proofs.steps.current_behind.Given as goal

abbrev pub invariant-loop-step : goal.invariant-loop-step
invariant-loop-step l = IsCurrent (map plain_step l.steps) (map plain_step (drop l.step-index l.steps)) (map (λ term. plain_term term.now) l.current.items) l.opened.items
