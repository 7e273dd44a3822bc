use Rattle.std.proofs.Common.{refl}
use Rattle.std.specs.Str.{chars}
use Rattle.law_theorem.proofs.selections.these_are_selected.Goals as goal

pub returns : goal.returns
unfolding chars
returns c = (refl, refl)
