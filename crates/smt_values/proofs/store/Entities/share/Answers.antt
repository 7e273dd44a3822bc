use Rattle.smt_values.proofs.Shared.{entities_distinct}
use Rattle.smt_values.specs.View.{entities_held}
use Rattle.smt_values.proofs.store.Entities.share.Goals as goal

pub invariant_of-result : goal.invariant_of-result
invariant_of-result c = record {
  distinct = entities_distinct c.loop-item.items.items c.as_slice-item-items.result.now (entities_held c.args.self.now) c.loop-item.item-index c.loop-item-test.false c.loop-item.invariant c.as_slice-item-items.ensures.value c.args.self.now.distinct;
}
