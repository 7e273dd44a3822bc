use Rattle.smt_symbolizer.proofs.SortedTypes.{types_ascend}
use Rattle.smt_symbolizer.proofs.by_type.ByType.of_pairs.Goals as goal

pub invariant_of-result : goal.invariant_of-result
invariant_of-result g c = record { ascending = types_ascend c.in_ok-in_order.field-0.items c.args.items.items c.in_ok-in_order.ensures }
