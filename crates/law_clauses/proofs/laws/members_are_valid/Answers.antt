use Rattle.law_clauses.proofs.Entities.{members_are_valid}
use Rattle.law_clauses.proofs.laws.members_are_valid.Goals as goal

pub returns : goal.returns
returns c = members_are_valid
