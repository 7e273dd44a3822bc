use Rattle.std.proofs.Common.{refl}
use Rattle.law_blasting.proofs.laws.blasted_rows.Goals as goal

pub returns : goal.returns
returns c = record { forms_stay = refl; names = refl; at_three = refl; at_two = refl; at_one = refl; at_zero = refl; products = refl; texts = refl; calls = refl; order = refl; kinds = refl }
