use Rattle.law_theorem.proofs.Interpretations.{agrees}
use Rattle.law_theorem.proofs.there_and_back.carrying_back_agrees.Goals as goal

pub returns : goal.returns
returns c enums s here ts J x h = agrees enums s here ts x J h
