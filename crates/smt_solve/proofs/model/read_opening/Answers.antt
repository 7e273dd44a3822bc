use Rattle.smt_solve.proofs.ModelLemmas.{opening_taken}
use Rattle.smt_solve.proofs.model.read_opening.Goals as goal

pub returns-clause-reads : goal.returns-clause-reads
returns-clause-reads g c =
    opening_taken (g.L.Link.allows c.args.link.now) c.take_opening.result (rw (← c.items.ensures) at c.in_ok-line.ensures.reads.ok) c.read_reply.ensures.reads.spared c.take_opening.ensures.takes
