use Rattle.std.proofs.Common.{refl}
use Rattle.law_terms.proofs.laws.node_rows.Goals as goal

pub returns : goal.returns
returns c = record { of_negation = refl; of_sums = refl; of_set = refl; fitting = refl; later_part = refl; part_missing = refl; part_too_many = refl; other_kind = refl; other_type = refl; no_option = refl; attributes_turned = refl; elements_turned = refl; element_twice = refl; function_applied = refl }
