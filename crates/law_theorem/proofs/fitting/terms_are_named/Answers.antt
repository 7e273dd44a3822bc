use Rattle.law_theorem.proofs.Named as laws
use Rattle.law_theorem.proofs.fitting.terms_are_named.Goals as goal

pub returns : goal.returns
returns c = laws.terms_are_named
