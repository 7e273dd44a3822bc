use Rattle.law_theorem.proofs.Free as laws
use Rattle.law_theorem.proofs.fitting.reached_are_open.Goals as goal

pub returns : goal.returns
returns c = laws.reached_are_open
