use Rattle.std.proofs.Common.{refl}
use Rattle.smt_cli.proofs.laws.generated_rows.Goals as goal

pub returns : goal.returns
returns c = record { first_number = refl; second_number = refl; behind_greatest = refl; ids = refl; eighth = refl; two_terms = refl }
