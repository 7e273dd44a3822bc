use Rattle.law_scripts.proofs.Commands as laws
use Rattle.law_scripts.proofs.scripts.one_state.Goals as goal

pub returns : goal.returns
returns c = laws.one_state
