use Rattle.smt_term.proofs.PutTypePairs.{attribute_put}
use Rattle.smt_term.proofs.type_maps.TypeMap.in_order.Goals as goal

pub loop-name-preserved : goal.loop-name-preserved
loop-name-preserved c =
    attribute_put c.args.items.now c.loop-name.name-index c.loop-name-item.result c.in_ok-share_text.field-0 c.in_ok-share.field-0 c.loop-name.found.entries c.insert.new.self.entries
    c.loop-name-test.true c.loop-name-item.is c.in_ok-share_text.ensures c.in_ok-share.ensures c.in_ok-insert.ensures.entries c.loop-name.invariant
