use Rattle.std.proofs.Common.{◌≡◌, map, take}
use Rattle.smt_jobs.specs.StepView.{plain_step}
use Rattle.smt_jobs.proofs.steps.StepList.share.Given as goal

abbrev pub invariant-loop-item : goal.invariant-loop-item
invariant-loop-item l = map plain_step l.items.items ≡ map plain_step (take l.item-index l.item-items)
