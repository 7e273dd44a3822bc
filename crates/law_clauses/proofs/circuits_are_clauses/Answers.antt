use Rattle.law_clauses.proofs.Gated.{circuit_back, circuit_forth}
use Rattle.law_clauses.proofs.circuits_are_clauses.Goals as goal

pub returns : goal.returns
returns c v n gs = (circuit_forth v n gs, circuit_back v n gs)
