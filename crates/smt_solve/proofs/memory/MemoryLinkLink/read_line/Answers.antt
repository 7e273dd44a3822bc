-- The line that is given moves from what is to come to what was read.
use Rattle.smt_solve.proofs.MemoryLemmas.{fails_read, lacks_memory, gives_line}
use Rattle.smt_solve.proofs.memory.MemoryLinkLink.read_line.Goals as goal

pub returns-then-is_to_fail-clause-reads : goal.returns-then-is_to_fail-clause-reads
returns-then-is_to_fail-clause-reads c = fails_read _ _ _ _ _ c.if-is_to_fail.true c.is_to_fail.ensures.counts c.is_to_fail.ensures.later

pub returns-in-Err-clause-reads : goal.returns-in-Err-clause-reads
returns-in-Err-clause-reads c = lacks_memory _ _ _ _ _ _ c.if-is_to_fail.false c.is_to_fail.ensures.counts c.in-Err.ensures.err

pub returns-in-Ok-clause-reads : goal.returns-in-Ok-clause-reads
returns-in-Ok-clause-reads c = gives_line _ _ _ _ _ _ _ _ _ c.if-is_to_fail.false c.is_to_fail.ensures.counts c.left-left.ensures c.next_line-count.ensures.ending c.in-Ok.ensures.ok
