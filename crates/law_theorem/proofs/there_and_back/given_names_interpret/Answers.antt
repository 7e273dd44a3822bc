use Rattle.law_theorem.proofs.Open as laws
use Rattle.law_theorem.proofs.there_and_back.given_names_interpret.Goals as goal

pub returns : goal.returns
returns c = laws.names_interpret
