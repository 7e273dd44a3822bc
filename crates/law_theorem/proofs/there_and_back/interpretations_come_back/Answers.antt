use Rattle.law_theorem.proofs.Interpretations.{returned}
use Rattle.law_theorem.proofs.there_and_back.interpretations_come_back.Goals as goal

pub returns : goal.returns
returns c enums s here ts I x h = returned enums s here ts x I h
