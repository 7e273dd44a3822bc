use Rattle.law_clauses.proofs.Sets.{sets_are_valid}
use Rattle.law_clauses.proofs.laws.sets_are_valid.Goals as goal

pub returns : goal.returns
returns c = sets_are_valid
