use Rattle.smt_dimacs.proofs.Entries.{negated_above}
use Rattle.smt_dimacs.proofs.entry.read_negated.Goals as goal

pub returns-in-None : goal.returns-in-None
returns-in-None c = negated_above c.args.digits.now c.args.variables (cc) c.in-None.ensures.none
