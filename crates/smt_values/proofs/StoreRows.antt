-- The worked examples, by computation.
use Rattle.std.proofs.Common.{refl}
use Rattle.smt_values.specs.StoreRows.{SchemaExamples, StoreExamples}

pub store_examples : StoreExamples
store_examples = record {
  first = refl;
  behind = refl;
  in_place = refl;
  other_type = refl;
  longer = refl;
}

pub schema_examples : SchemaExamples
schema_examples = record {
  both = refl;
  principal_alone = refl;
  resource_alone = refl;
  no_action = refl;
  last_lists = refl;
  first_lists = refl;
  one_each = refl;
}
