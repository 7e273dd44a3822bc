use Rattle.law_terms.proofs.Fitting.{fitting}
use Rattle.law_terms.proofs.laws.fitting_nodes_have_meanings.Goals as goal

pub returns : goal.returns
returns c = fitting
