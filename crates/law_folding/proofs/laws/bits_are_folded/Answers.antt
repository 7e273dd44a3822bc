use Rattle.law_folding.proofs.BitsStand.{stands_bits, stands_bvneg, stands_zero_extend}
use Rattle.law_folding.proofs.laws.bits_are_folded.Goals as goal

pub returns : goal.returns
returns c = record { bvneg = stands_bvneg; bits = stands_bits; zero_extend = stands_zero_extend }
