use Rattle.law_theorem.proofs.Distinct as laws
use Rattle.law_theorem.proofs.fitting.drawn_names_differ.Goals as goal

pub returns : goal.returns
returns c = laws.drawn_names_differ
