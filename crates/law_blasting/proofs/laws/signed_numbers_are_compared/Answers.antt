use Rattle.law_blasting.proofs.Signs.{less_is_signed}
use Rattle.law_blasting.proofs.laws.signed_numbers_are_compared.Goals as goal

pub returns : goal.returns
returns c = less_is_signed
