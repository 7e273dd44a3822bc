use Rattle.smt_solve.proofs.MemoryLemmas.{fails_flush}
use Rattle.smt_solve.proofs.memory.MemoryLinkLink.flush.Goals as goal

pub returns-then-is_to_fail-clause-hands_on : goal.returns-then-is_to_fail-clause-hands_on
returns-then-is_to_fail-clause-hands_on c = fails_flush _ _ _ c.if-is_to_fail.true c.is_to_fail.ensures.counts c.is_to_fail.ensures.later
