use Rattle.law_verdicts.proofs.Found as laws
use Rattle.law_verdicts.proofs.laws.models_are_found.Goals as goal

pub returns : goal.returns
returns c = laws.models_are_found
