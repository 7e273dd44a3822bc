use Rattle.std.proofs.Common.{sym, subst}
use Rattle.smt_clauses.specs.Outcomes.{IsRefuted}
use Rattle.smt_clauses.proofs.refutation.refutes.Goals as goal

pub returns-in-Refuted : goal.returns-in-Refuted
returns-in-Refuted c = record { refuted = λ yes v s. c.in_ok-check_proof.ensures.refuted (subst IsRefuted (sym c.in-Refuted.is) tt) v s }
