use Rattle.law_theorem.proofs.Ordered.{keeps}
use Rattle.law_theorem.proofs.values.carrying_keeps_order.Goals as goal

pub returns : goal.returns
returns c enums s ty v w good h k = keeps enums s good ty v w h k
