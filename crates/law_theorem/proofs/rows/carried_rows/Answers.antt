use Rattle.std.specs.Prelude.{refl}
use Rattle.std.specs.Str.{chars}
use Rattle.std.specs.Fmt.{digits}
use Rattle.law_theorem.proofs.rows.carried_rows.Goals as goal

pub returns : goal.returns
unfolding digits chars
returns c = record { negation = refl; negation_back = refl; record_carries = refl; record_back = refl; member = refl; member_back = refl; sorts = refl }
