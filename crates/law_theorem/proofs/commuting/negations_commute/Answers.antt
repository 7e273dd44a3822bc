use Rattle.law_theorem.proofs.Negations.{negated}
use Rattle.law_theorem.proofs.commuting.negations_commute.Goals as goal

pub returns : goal.returns
returns c enums s I n v good g h = negated enums s good I n v g h
