use Rattle.std.proofs.Common.{refl}
use Rattle.law_clauses.proofs.rows.pattern_rows.Goals as goal

pub returns : goal.returns
returns c = record { from_a = refl; to_b = refl; all = refl; nothing = refl; meet_a = refl; meet_b = refl; meet_all = refl; meet_nothing = refl }
