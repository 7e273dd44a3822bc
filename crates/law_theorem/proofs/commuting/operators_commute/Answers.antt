use Rattle.law_theorem.proofs.Operators.{commutes}
use Rattle.law_theorem.proofs.commuting.operators_commute.Goals as goal

pub returns : goal.returns
returns c enums s I op tys vs ty good o r a = commutes enums s good I op ty tys vs o a r
