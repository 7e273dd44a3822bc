use Rattle.law_theorem.proofs.FitKept as laws
use Rattle.law_theorem.proofs.headline.conditions_are_their_scripts.Goals as goal

pub returns : goal.returns
returns c = laws.conditions_are_their_scripts
