use Rattle.law_assignments.proofs.Given as laws
use Rattle.law_assignments.proofs.laws.covered_is_interpretation.Goals as goal

pub returns : goal.returns
returns c = laws.covered_is_interpretation
