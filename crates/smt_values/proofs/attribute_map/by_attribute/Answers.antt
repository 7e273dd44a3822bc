use Rattle.smt_values.proofs.PutPairs.{attribute_put}
use Rattle.smt_values.proofs.attribute_map.by_attribute.Goals as goal

pub loop-name-preserved-in_ok-insert : goal.loop-name-preserved-in_ok-insert
loop-name-preserved-in_ok-insert g c =
    attribute_put c.loop-name.yielded (c.in-Some.name, c.in-Some.value) c.loop-name.found.entries c.insert.new.self.entries c.in_ok-insert.ensures.entries c.loop-name.invariant

pub loop-name-preserved : goal.loop-name-preserved
loop-name-preserved g c =
    attribute_put c.loop-name.yielded (c.in-Some.name, c.in-Some.value) c.loop-name.found.entries c.insert.new.self.entries c.in_ok-insert.ensures.entries c.loop-name.invariant
