use Rattle.law_blasting.proofs.Sums.{differences_are_taken, less_is_borrowed}
use Rattle.law_blasting.proofs.Subtractions.{negations_are_taken}
use Rattle.law_blasting.proofs.laws.differences_are_taken.Goals as goal

pub returns : goal.returns
returns c = record { difference = differences_are_taken; less = less_is_borrowed; negation = negations_are_taken }
