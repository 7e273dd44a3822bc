use Rattle.smt_dimacs.proofs.Complete.{faults_are_in_no_formula}
use Rattle.smt_dimacs.proofs.laws.faults_are_in_no_formula.Goals as goal

pub returns : goal.returns
returns c = faults_are_in_no_formula
