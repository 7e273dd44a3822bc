use Rattle.law_extensions.proofs.laws.extension_functions_are_folded.Goals as goal
use Rattle.law_extensions.proofs.FunctionsStand.{functions_stand}

pub returns : goal.returns
returns c = functions_stand
