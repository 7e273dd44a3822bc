use Rattle.law_theorem.proofs.Sessions as laws
use Rattle.law_theorem.proofs.fitting.fitting_texts_are_scripts.Goals as goal

pub returns : goal.returns
returns c = laws.fitting_texts_are_scripts
