use Rattle.smt_term.proofs.PutTexts.{text_put}
use Rattle.smt_term.proofs.texts.TextSet.in_order.Goals as goal

pub loop-item-preserved : goal.loop-item-preserved
loop-item-preserved c =
    text_put c.args.items.now c.loop-item.item-index c.item-item.result c.in_ok-share_text.field-0 c.loop-item.found.keys c.insert.new.self.keys
    c.loop-item-test.true c.item-item.is c.in_ok-share_text.ensures c.in_ok-insert.ensures.keys c.loop-item.invariant
