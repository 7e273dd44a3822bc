use Rattle.law_scripts.proofs.Lines as laws
use Rattle.law_scripts.proofs.scripts.comments_add.Goals as goal

pub returns : goal.returns
returns c = laws.comments_add
