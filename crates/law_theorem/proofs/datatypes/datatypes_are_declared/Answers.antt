use Rattle.law_theorem.proofs.Standing as laws
use Rattle.law_theorem.proofs.datatypes.datatypes_are_declared.Goals as goal

pub returns : goal.returns
returns c = laws.datatypes_are_declared
