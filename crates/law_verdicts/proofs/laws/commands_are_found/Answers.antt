use Rattle.law_verdicts.proofs.Commands as laws
use Rattle.law_verdicts.proofs.laws.commands_are_found.Goals as goal

pub returns : goal.returns
returns c = laws.commands_are_found
