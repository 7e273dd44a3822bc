use Rattle.law_clauses.proofs.Quotients.{quotients_are_valid}
use Rattle.law_clauses.proofs.laws.quotients_are_valid.Goals as goal

pub returns : goal.returns
returns c = quotients_are_valid
