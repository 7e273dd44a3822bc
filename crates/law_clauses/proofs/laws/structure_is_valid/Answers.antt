use Rattle.law_clauses.proofs.Structure.{structure_is_valid}
use Rattle.law_clauses.proofs.laws.structure_is_valid.Goals as goal

pub returns : goal.returns
returns c = structure_is_valid
