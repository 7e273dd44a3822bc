use Rattle.law_theorem.proofs.Types as laws
use Rattle.law_theorem.proofs.fitting.option_is_declared.Goals as goal

pub returns : goal.returns
returns c = laws.option_is_declared
