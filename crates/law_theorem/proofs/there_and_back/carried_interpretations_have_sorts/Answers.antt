use Rattle.law_theorem.proofs.Interpretations.{carried}
use Rattle.law_theorem.proofs.there_and_back.carried_interpretations_have_sorts.Goals as goal

pub returns : goal.returns
returns c enums s here ts I x h = carried enums s here ts x I h
