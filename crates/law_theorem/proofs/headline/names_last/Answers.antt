use Rattle.law_theorem.proofs.Lasting as laws
use Rattle.law_theorem.proofs.headline.names_last.Goals as goal

pub returns : goal.returns
returns c = laws.script_names_last
