use Rattle.law_theorem.proofs.Ordered.{stays_sorted}
use Rattle.law_theorem.proofs.values.sets_stay_sorted.Goals as goal

pub returns : goal.returns
returns c enums s ty vs good h = stays_sorted enums s good ty vs h.0 h.1
