use Rattle.std.proofs.Common.{drop}
use Rattle.smt_values.proofs.TypesGiven.{GivingTypes}
use Rattle.smt_values.proofs.of_type.+of_type.Given as goal

abbrev pub invariant-attribute_types-loop-name : goal.invariant-attribute_types-loop-name
invariant-attribute_types-loop-name l = GivingTypes l.pairs.items (drop l.name-index l.items) l.items
