use Rattle.law_theorem.proofs.Example as laws
use Rattle.law_theorem.proofs.headline.negation_is_its_script.Goals as goal

pub returns : goal.returns
returns c = laws.negation_is_its_script
