use Rattle.law_theorem.proofs.Ordered.{one_to_one}
use Rattle.law_theorem.proofs.values.carrying_is_one_to_one.Goals as goal

pub returns : goal.returns
returns c enums s ty v w good h k = one_to_one enums s good ty v w h k
