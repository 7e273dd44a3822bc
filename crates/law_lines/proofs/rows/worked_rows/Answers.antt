use Rattle.std.specs.Prelude.{refl}
use Rattle.std.specs.Str.{chars}
use Rattle.std.specs.Fmt.{digits}
use Rattle.law_lines.proofs.rows.worked_rows.Goals as goal

pub returns : goal.returns
unfolding digits chars
returns c = record { none = refl; truth = refl; negation = refl; repeated = refl; two = refl; record_of_one = refl; enum_member = refl; shifted = refl; empty_record = refl; hostile_variable = refl; hostile_function = refl; levels = refl }
