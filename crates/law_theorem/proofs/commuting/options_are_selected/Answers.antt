use Rattle.law_theorem.proofs.Selectors.{option_selected}
use Rattle.law_theorem.proofs.commuting.options_are_selected.Goals as goal

pub returns : goal.returns
returns c enums s I j p sort t v h e = option_selected enums s I j p sort t v h e
