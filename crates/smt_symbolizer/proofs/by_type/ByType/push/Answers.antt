use Rattle.smt_symbolizer.proofs.SortedTypes.{put_after, types_ascend_after}
use Rattle.smt_symbolizer.proofs.by_type.ByType.push.Goals as goal

pub invariant_of-self : goal.invariant_of-self
invariant_of-self g c = record {
  ascending = types_ascend_after c.put.result c.args.self.now.items.items c.put.new.items.items c.args.item.0 c.args.item.1 c.put.ensures.put c.put.ensures.unchanged c.args.self.now.ascending;
}

pub returns-clause-put : goal.returns-clause-put
returns-clause-put g c = put_after c.put.result c.args.self.now.items.items c.put.new.items.items c.args.item.0 c.args.item.1 c.put.ensures.put
