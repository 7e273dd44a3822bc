use Rattle.std.proofs.Common.{subst, sym}
use Rattle.smt_clauses.specs.Outcomes.{IsRefuted}
use Rattle.smt_sat_run.proofs.deciding.check_bytes.Goals as goal

pub returns-in-Refuted : goal.returns-in-Refuted
returns-in-Refuted c = c.in_ok-check_proof.ensures.refuted (subst IsRefuted (sym c.in-Refuted.is) tt)
