use Rattle.law_numbers.proofs.Modulus.{modulus_has_sign}
use Rattle.law_numbers.proofs.TwosComplement.{division_rounds}
use Rattle.law_numbers.proofs.laws.signed_divisions_round.Goals as goal

pub returns-clause-quotient : goal.returns-clause-quotient
returns-clause-quotient c = division_rounds

pub returns-clause-modulus : goal.returns-clause-modulus
returns-clause-modulus c = modulus_has_sign
