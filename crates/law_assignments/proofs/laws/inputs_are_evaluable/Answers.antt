use Rattle.law_assignments.proofs.Inputs as laws
use Rattle.law_assignments.proofs.laws.inputs_are_evaluable.Goals as goal

pub returns : goal.returns
returns c = laws.inputs_are_evaluable
