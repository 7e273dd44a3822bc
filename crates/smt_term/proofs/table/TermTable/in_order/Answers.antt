use Rattle.smt_term.proofs.PutTerms.{entry_put}
use Rattle.smt_term.proofs.table.TermTable.in_order.Goals as goal

pub loop-argument-preserved : goal.loop-argument-preserved
loop-argument-preserved c =
    entry_put c.args.items.now c.loop-argument.argument-index c.loop-argument-item.result c.in_ok-share.field-0 c.in_ok-share-2.field-0 c.loop-argument.found.entries c.insert.new.self.entries
    c.loop-argument-test.true c.loop-argument-item.is c.in_ok-share.ensures c.in_ok-share-2.ensures c.in_ok-insert.ensures.entries c.loop-argument.invariant
