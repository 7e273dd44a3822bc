use Rattle.law_scripts.proofs.Spelled as laws
use Rattle.law_scripts.proofs.evaluation.operators_are_found_by_spelling.Goals as goal

pub returns : goal.returns
returns c = laws.operators_are_found_by_spelling
