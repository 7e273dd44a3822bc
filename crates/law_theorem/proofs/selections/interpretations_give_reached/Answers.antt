use Rattle.law_theorem.proofs.SelectionsGiven.{interpretations_give_reached}
use Rattle.law_theorem.proofs.selections.interpretations_give_reached.Goals as goal

pub returns : goal.returns
returns c = interpretations_give_reached
