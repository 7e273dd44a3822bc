use Rattle.law_theorem.proofs.OpenEntries as laws
use Rattle.law_theorem.proofs.fitting.names_are_open.Goals as goal

pub returns : goal.returns
returns c = laws.names_are_open
