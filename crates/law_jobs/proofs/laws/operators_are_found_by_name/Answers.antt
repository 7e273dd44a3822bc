use Rattle.law_jobs.proofs.OperatorNames.{found_by_name}
use Rattle.law_jobs.proofs.laws.operators_are_found_by_name.Goals as goal

pub returns : goal.returns
returns c = found_by_name
