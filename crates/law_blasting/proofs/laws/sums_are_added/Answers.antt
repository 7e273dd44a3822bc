use Rattle.law_blasting.proofs.Sums.{sums_are_added}
use Rattle.law_blasting.proofs.laws.sums_are_added.Goals as goal

pub returns : goal.returns
returns c = sums_are_added
