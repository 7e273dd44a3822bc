use Rattle.law_clauses.proofs.GateClauses.{gates_are_valid}
use Rattle.law_clauses.proofs.laws.gates_are_valid.Goals as goal

pub returns : goal.returns
returns c = gates_are_valid
