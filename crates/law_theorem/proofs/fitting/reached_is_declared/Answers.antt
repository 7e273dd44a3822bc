use Rattle.law_theorem.proofs.Named as laws
use Rattle.law_theorem.proofs.fitting.reached_is_declared.Goals as goal

pub returns : goal.returns
returns c = laws.reached_is_declared
