use Rattle.smt_job_terms.proofs.EnumsEntered.{next_entered}
use Rattle.smt_job_terms.proofs.enums.enums_from.Goals as goal

pub loop-item-preserved : goal.loop-item-preserved
loop-item-preserved c =
    next_entered _ c.args.items.now c.loop-item.item-index c.item-item.result c.loop-item.invariant c.loop-item-test.true c.item-item.is c.declare.new.table (c.in_ok-declare.ensures _ c.loop-item.invariant.has)
