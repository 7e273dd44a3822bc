use Rattle.law_blasting.proofs.DistinctNames.{new_names_differ}
use Rattle.law_blasting.proofs.Inverses.{bits_are_booleans, bits_are_one_to_one, bits_are_onto}
use Rattle.law_blasting.proofs.laws.bits_are_values.Goals as goal

pub returns : goal.returns
returns c = record { names = new_names_differ; booleans = bits_are_booleans; one_to_one = bits_are_one_to_one; onto = bits_are_onto }
