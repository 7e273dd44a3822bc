use Rattle.law_clauses.proofs.Equality.{congruence_is_valid, equality_is_valid}
use Rattle.law_clauses.proofs.laws.equality_is_valid.Goals as goal

pub returns-clause-equality : goal.returns-clause-equality
returns-clause-equality c = equality_is_valid

pub returns-clause-congruence : goal.returns-clause-congruence
returns-clause-congruence c = congruence_is_valid
