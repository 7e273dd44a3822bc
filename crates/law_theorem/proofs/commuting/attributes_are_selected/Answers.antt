use Rattle.law_theorem.proofs.Selectors.{attribute_selected}
use Rattle.law_theorem.proofs.commuting.attributes_are_selected.Goals as goal

pub returns : goal.returns
returns c enums s j n x d ps sort attributes t v h e = attribute_selected enums s j n x d ps sort attributes t v h e
