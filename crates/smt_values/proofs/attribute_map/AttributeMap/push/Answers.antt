use Rattle.smt_values.proofs.PutPairs.{attributes_ascend, named_put}
use Rattle.smt_values.proofs.attribute_map.AttributeMap.push.Goals as goal

pub invariant_of-self : goal.invariant_of-self
invariant_of-self g c = record {
  ascending = attributes_ascend c.put.result c.args.self.now.items.items c.put.new.items.items c.args.item.0 c.args.item.1 c.put.ensures.put c.put.ensures.unchanged c.args.self.now.ascending;
}

pub returns-clause-put : goal.returns-clause-put
returns-clause-put g c = named_put c.put.result c.args.self.now.items.items c.put.new.items.items c.args.item.0 c.args.item.1 c.put.ensures.put
