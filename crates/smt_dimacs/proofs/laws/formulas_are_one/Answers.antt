use Rattle.smt_dimacs.proofs.Complete.{formulas_are_one}
use Rattle.smt_dimacs.proofs.laws.formulas_are_one.Goals as goal

pub returns : goal.returns
returns c = formulas_are_one
