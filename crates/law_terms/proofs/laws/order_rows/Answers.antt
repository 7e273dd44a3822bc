use Rattle.std.proofs.Common.{refl}
use Rattle.law_terms.proofs.laws.order_rows.Goals as goal

pub returns : goal.returns
returns c = record { negative_terms = refl; negative_values = refl; prefix_terms = refl; prefix_values = refl; kinds_terms = refl; kinds_values = refl }
