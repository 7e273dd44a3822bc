use Rattle.law_scripts.proofs.Lines as laws
use Rattle.law_scripts.proofs.scripts.lines_add.Goals as goal

pub returns : goal.returns
returns c = laws.lines_add
