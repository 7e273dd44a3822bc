use Rattle.law_blasting.proofs.Overflows.{sums_overflow}
use Rattle.law_blasting.proofs.Subtractions.{differences_overflow, negations_overflow}
use Rattle.law_blasting.proofs.laws.results_overflow.Goals as goal

pub returns : goal.returns
returns c = record { sums = sums_overflow; differences = differences_overflow; negations = negations_overflow }
