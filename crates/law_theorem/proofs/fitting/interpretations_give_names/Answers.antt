use Rattle.law_theorem.proofs.Given as laws
use Rattle.law_theorem.proofs.fitting.interpretations_give_names.Goals as goal

pub returns : goal.returns
returns c = laws.interpretations_give_names
