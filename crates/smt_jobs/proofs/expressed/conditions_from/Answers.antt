use Rattle.smt_term.specs.View.{plain_items}
use Rattle.smt_job_terms.proofs.Reading.{passes_on}
use Rattle.smt_jobs.proofs.ExpressedJobs.{condition_fault, one_condition_more}
use Rattle.smt_jobs.proofs.expressed.conditions_from.Goals as goal

pub returns-in_err-condition_from : goal.returns-in_err-condition_from
returns-in_err-condition_from c ds has =
    passes_on plain_items c.from_residual.result c.in_err-condition_from.field-0.0 _ _ c.from_residual.ensures.1 (c.in_err-condition_from.ensures ds has)
    (condition_fault ds _ _ c.loop-item.item-index c.item-item.result (c.loop-item.invariant ds has) c.loop-item-test.true c.item-item.is)

pub loop-item-preserved : goal.loop-item-preserved
loop-item-preserved c ds has =
    one_condition_more ds _ _ c.loop-item.item-index c.item-item.result (c.loop-item.invariant ds has) c.loop-item-test.true c.item-item.is c.in_ok-condition_from.field-0 _ (c.in_ok-condition_from.ensures ds has) c.in_ok-push.ensures.items
