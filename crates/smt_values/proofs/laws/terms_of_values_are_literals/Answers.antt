use Rattle.smt_values.proofs.Literals.{terms_are_literals}
use Rattle.smt_values.proofs.laws.terms_of_values_are_literals.Goals as goal

pub returns : goal.returns
returns c = terms_are_literals
