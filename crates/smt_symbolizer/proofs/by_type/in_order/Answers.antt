use Rattle.smt_symbolizer.proofs.SortedTypes.{type_put}
use Rattle.smt_symbolizer.proofs.by_type.in_order.Goals as goal

pub loop-ety-preserved-in_ok-insert : goal.loop-ety-preserved-in_ok-insert
loop-ety-preserved-in_ok-insert g c =
    type_put c.loop-ety.yielded (c.in-Some.ety, c.in-Some.value) c.loop-ety.found.entries c.insert.new.self.entries c.in_ok-insert.ensures.entries c.loop-ety.invariant

pub loop-ety-preserved : goal.loop-ety-preserved
loop-ety-preserved g c =
    type_put c.loop-ety.yielded (c.in-Some.ety, c.in-Some.value) c.loop-ety.found.entries c.insert.new.self.entries c.in_ok-insert.ensures.entries c.loop-ety.invariant
