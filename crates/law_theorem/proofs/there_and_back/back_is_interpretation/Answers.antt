use Rattle.law_theorem.proofs.Interpretations.{comes_back}
use Rattle.law_theorem.proofs.there_and_back.back_is_interpretation.Goals as goal

pub returns : goal.returns
returns c enums s here ts J x h = comes_back enums s here ts x J h
