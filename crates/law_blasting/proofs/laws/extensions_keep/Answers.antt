use Rattle.law_blasting.proofs.Bits.{extensions_keep}
use Rattle.law_blasting.proofs.laws.extensions_keep.Goals as goal

pub returns : goal.returns
returns c = extensions_keep
