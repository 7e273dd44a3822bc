use Rattle.law_clauses.proofs.Records.{records_are_valid}
use Rattle.law_clauses.proofs.laws.records_are_valid.Goals as goal

pub returns : goal.returns
returns c = records_are_valid
