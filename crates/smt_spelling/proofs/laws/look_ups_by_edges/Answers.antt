use Rattle.smt_spelling.proofs.Edges.{within_edges}
use Rattle.smt_spelling.proofs.laws.look_ups_by_edges.Goals as goal

pub returns : goal.returns
returns c = within_edges
