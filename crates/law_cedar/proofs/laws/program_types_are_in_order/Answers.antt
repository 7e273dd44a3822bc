use Rattle.law_cedar.proofs.ProgramTypes.{program_types_are_in_order}
use Rattle.law_cedar.proofs.laws.program_types_are_in_order.Goals as goal

pub returns : goal.returns
returns c = program_types_are_in_order
