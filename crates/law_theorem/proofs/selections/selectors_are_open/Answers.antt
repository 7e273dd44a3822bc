use Rattle.law_theorem.proofs.SelectionsOpen.{selectors_are_open}
use Rattle.law_theorem.proofs.selections.selectors_are_open.Goals as goal

pub returns : goal.returns
returns c = selectors_are_open
