use Rattle.law_folding.proofs.ExtensionsStand.{stands_extension}
use Rattle.law_folding.proofs.laws.extensions_are_folded.Goals as goal

pub returns : goal.returns
returns c = stands_extension
