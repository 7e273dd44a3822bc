use Rattle.smt_sexpr.specs.View.{plain-Numeral}
use Rattle.smt_sexpr.proofs.token.split_number.Goals as goal

pub returns-in-Some-clause-found : goal.returns-in-Some-clause-found
returns-in-Some-clause-found c = rw plain-Numeral c.in-Some.ensures.found
