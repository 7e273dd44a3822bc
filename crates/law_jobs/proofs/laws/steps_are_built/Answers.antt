use Rattle.law_jobs.proofs.Steps.{asserted_built, balanced_built, current_built}
use Rattle.law_jobs.proofs.laws.steps_are_built.Goals as goal

pub returns : goal.returns
returns c = record { asserted = asserted_built; current = current_built; balanced = balanced_built }
