use Rattle.smt_blast.proofs.gates.Gates.+push_variables.Given as goal

abbrev pub decreases-push_variables : goal.decreases-push_variables
decreases-push_variables l = l.count
