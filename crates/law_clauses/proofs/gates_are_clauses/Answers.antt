use Rattle.law_clauses.proofs.Gated.{gate_back, gate_forth}
use Rattle.law_clauses.proofs.gates_are_clauses.Goals as goal

pub returns : goal.returns
returns c v o g = (gate_forth v o g, gate_back v o g)
