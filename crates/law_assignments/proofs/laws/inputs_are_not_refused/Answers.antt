use Rattle.law_assignments.proofs.Inputs as laws
use Rattle.law_assignments.proofs.laws.inputs_are_not_refused.Goals as goal

pub returns : goal.returns
returns c = laws.inputs_are_not_refused
