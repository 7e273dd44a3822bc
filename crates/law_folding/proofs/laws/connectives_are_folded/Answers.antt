use Rattle.law_folding.proofs.CompositesStand.{stands_any, stands_implies}
use Rattle.law_folding.proofs.ConnectivesStand.{stands_not, stands_and, stands_or, any_is_true}
use Rattle.law_folding.proofs.laws.connectives_are_folded.Goals as goal

pub returns-clause-folded : goal.returns-clause-folded
returns-clause-folded c = record { not = stands_not; and = stands_and; or = stands_or; implies = stands_implies; any = stands_any }

pub returns-clause-any : goal.returns-clause-any
returns-clause-any c = any_is_true
