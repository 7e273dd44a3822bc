use Rattle.law_theorem.proofs.Types as laws
use Rattle.law_theorem.proofs.fitting.named_types_are_declared.Goals as goal

pub returns : goal.returns
returns c = laws.named_types_are_declared
