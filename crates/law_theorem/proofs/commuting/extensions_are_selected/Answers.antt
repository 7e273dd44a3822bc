use Rattle.law_theorem.proofs.Selectors.{extension_selected}
use Rattle.law_theorem.proofs.commuting.extensions_are_selected.Goals as goal

pub returns : goal.returns
returns c enums s I j o sort v good p h r e = extension_selected enums s good I j o sort v p h r e
