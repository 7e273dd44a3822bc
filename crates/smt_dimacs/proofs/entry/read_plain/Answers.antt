use Rattle.smt_dimacs.proofs.Entries.{plain_above}
use Rattle.smt_dimacs.proofs.entry.read_plain.Goals as goal

pub returns-in-None : goal.returns-in-None
returns-in-None c = plain_above c.args.digits.now c.args.variables (cc) c.in-None.ensures.none
