use Rattle.smt_solve.proofs.MemoryLemmas.{fails_send}
use Rattle.smt_solve.proofs.memory.MemoryLinkLink.send.Goals as goal

pub returns-then-is_to_fail-clause-sends : goal.returns-then-is_to_fail-clause-sends
returns-then-is_to_fail-clause-sends c = fails_send _ _ _ _ c.if-is_to_fail.true c.is_to_fail.ensures.counts c.is_to_fail.ensures.later
