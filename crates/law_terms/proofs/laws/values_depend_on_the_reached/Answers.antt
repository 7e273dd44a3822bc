use Rattle.law_terms.proofs.Agreement.{same_values, restricted}
use Rattle.law_terms.proofs.laws.values_depend_on_the_reached.Goals as goal

pub returns-clause-values : goal.returns-clause-values
returns-clause-values c ts I J h = same_values I J ts h

pub returns-clause-restriction : goal.returns-clause-restriction
returns-clause-restriction c ts I = restricted ts I
