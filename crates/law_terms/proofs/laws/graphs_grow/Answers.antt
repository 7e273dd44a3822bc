use Rattle.law_terms.proofs.Growth.{grow, none_is}
use Rattle.law_terms.proofs.laws.graphs_grow.Goals as goal

pub returns : goal.returns
returns c = (none_is, grow)
