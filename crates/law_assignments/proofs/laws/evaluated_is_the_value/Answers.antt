use Rattle.law_assignments.proofs.Evaluating.{evaluated_is_the_value}
use Rattle.law_assignments.proofs.Holding.{one_literal_has_the_value}
use Rattle.law_assignments.proofs.laws.evaluated_is_the_value.Goals as goal

pub returns : goal.returns
returns c = record { evaluated = evaluated_is_the_value; one = one_literal_has_the_value }
