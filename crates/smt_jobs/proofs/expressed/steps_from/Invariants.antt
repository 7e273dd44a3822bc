use Rattle.std.proofs.Common.{◌≤◌, drop}
use Rattle.law_jobs.specs.Declarations.{Declared}
use Rattle.smt_job_terms.specs.DeclarationView.{HasDeclared}
use Rattle.smt_jobs.specs.StepView.{plain_steps}
use Rattle.smt_jobs.proofs.ExpressedJobs.{ReadingSteps}
use Rattle.smt_jobs.proofs.expressed.steps_from.Given as goal

abbrev pub invariant-loop-item : goal.invariant-loop-item
invariant-loop-item l = record {
  few : l.levels ≤ l.item-index;
  stated : (ds : Declared) → HasDeclared l.declared ds → ReadingSteps ds (plain_steps l.steps) l.levels (drop l.item-index l.items) l.items;
}
