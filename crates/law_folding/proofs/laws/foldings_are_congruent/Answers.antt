use Rattle.law_folding.proofs.FoldingsKeep.{related}
use Rattle.law_folding.proofs.laws.foldings_are_congruent.Goals as goal

pub returns : goal.returns
returns c = related
