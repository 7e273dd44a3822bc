use Rattle.std.proofs.Common.{refl}
use Rattle.std.specs.Str.{chars}
use Rattle.law_terms.proofs.laws.fault_rows.Goals as goal

pub returns : goal.returns
unfolding chars
returns c = record { greatest = refl; too_great = refl; id_too_great = refl; pattern_too_great = refl; member = refl; no_member = refl; empty = refl; in_order = refl; malformed = refl; of_bool = refl; of_entity = refl; absent = refl; there = refl; passed_over = refl; type_first = refl; parts_in_order = refl; itself_last = refl; inside_types = refl; of_function = refl; entered = refl }
