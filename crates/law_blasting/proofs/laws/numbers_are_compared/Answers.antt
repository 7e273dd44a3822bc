use Rattle.law_blasting.proofs.Bits.{numbers_are_compared}
use Rattle.law_blasting.proofs.laws.numbers_are_compared.Goals as goal

pub returns : goal.returns
returns c = numbers_are_compared
