use Rattle.law_theorem.proofs.Open as laws
use Rattle.law_theorem.proofs.there_and_back.names_agree.Goals as goal

pub returns : goal.returns
returns c = laws.names_agree
