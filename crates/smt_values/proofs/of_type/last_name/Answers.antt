use Rattle.smt_values.proofs.LastName.{none_last, some_last}
use Rattle.smt_values.proofs.of_type.last_name.Goals as goal

pub returns-in-Some : goal.returns-in-Some
returns-in-Some c = let w = c.in-Some.ensures.cases in some_last _ c.in-Some.last.now w.0 w.1 w.2 w.4

pub returns-in-None : goal.returns-in-None
returns-in-None c = none_last c.args.name.now c.in-None.ensures.cases
