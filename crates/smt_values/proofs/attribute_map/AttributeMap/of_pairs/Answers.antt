use Rattle.std.proofs.Common.{map}
use Rattle.smt_values.specs.Named.{named}
use Rattle.smt_term.proofs.AscendingPairs.{pairs_ascend}
use Rattle.smt_values.proofs.attribute_map.AttributeMap.of_pairs.Goals as goal

pub invariant_of-result : goal.invariant_of-result
invariant_of-result g c = record { ascending = pairs_ascend (λ v. v) c.in_ok-in_order.field-0.items (map named c.args.items.items) c.in_ok-in_order.ensures }
