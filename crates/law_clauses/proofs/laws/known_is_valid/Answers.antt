use Rattle.law_clauses.proofs.Known.{known_is_valid}
use Rattle.law_clauses.proofs.laws.known_is_valid.Goals as goal

pub returns : goal.returns
returns c = known_is_valid
