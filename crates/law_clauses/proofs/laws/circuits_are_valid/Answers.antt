use Rattle.law_clauses.proofs.Bits.{circuits_are_valid}
use Rattle.law_clauses.proofs.laws.circuits_are_valid.Goals as goal

pub returns : goal.returns
returns c = circuits_are_valid
