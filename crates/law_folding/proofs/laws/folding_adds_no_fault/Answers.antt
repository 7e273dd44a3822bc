use Rattle.law_folding.proofs.BuiltFaults.{built_faultless}
use Rattle.law_folding.proofs.laws.folding_adds_no_fault.Goals as goal

pub returns : goal.returns
returns c = built_faultless
