use Rattle.law_numbers.proofs.TwosComplement.{signed_has_its_bits, bits_are_taken}
use Rattle.law_numbers.proofs.laws.signed_values_have_their_bits.Goals as goal

pub returns-clause-bits : goal.returns-clause-bits
returns-clause-bits c = signed_has_its_bits

pub returns-clause-range : goal.returns-clause-range
returns-clause-range c = bits_are_taken
