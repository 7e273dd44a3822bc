use Rattle.law_blasting.proofs.Bits.{numbers_have_bits, bits_have_numbers}
use Rattle.law_blasting.proofs.laws.bits_are_numbers.Goals as goal

pub returns : goal.returns
returns c = record { numbers = numbers_have_bits; bits = bits_have_numbers }
