use Rattle.smt_clauses.proofs.refutation.check_proof.Goals as goal

pub returns-clause-refuted : goal.returns-clause-refuted
returns-clause-refuted c refuted v s = c.in_ok-outcome.ensures.refuted refuted v (c.in_ok-checker.ensures v s)
