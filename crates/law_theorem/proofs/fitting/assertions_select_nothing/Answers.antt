use Rattle.law_theorem.proofs.Selected as laws
use Rattle.law_theorem.proofs.fitting.assertions_select_nothing.Goals as goal

pub returns : goal.returns
returns c = laws.assertions_select_nothing
