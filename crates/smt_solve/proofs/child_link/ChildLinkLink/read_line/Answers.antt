use Rattle.smt_solve.proofs.ChildLemmas.{fails_read, reads_line}
use Rattle.smt_solve.proofs.child_link.ChildLinkLink.read_line.Goals as goal

pub returns-in-Ok-clause-reads : goal.returns-in-Ok-clause-reads
returns-in-Ok-clause-reads g c = reads_line _ _ _ _ _ _ c.in-Ok.ensures

pub returns-in-Err-clause-reads : goal.returns-in-Err-clause-reads
returns-in-Err-clause-reads g c = fails_read _ _ _ _ _ _ _ c.in-Err.error c.count.ensures.later c.count.ensures.exact c.in-Err.ensures
