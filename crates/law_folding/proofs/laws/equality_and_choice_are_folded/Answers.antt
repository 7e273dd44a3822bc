use Rattle.law_folding.proofs.EqualityStands.{stands_eq, stands_ite}
use Rattle.law_folding.proofs.laws.equality_and_choice_are_folded.Goals as goal

pub returns : goal.returns
returns c = record { eq = stands_eq; ite = stands_ite }
