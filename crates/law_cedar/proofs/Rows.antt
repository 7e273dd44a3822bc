-- The examples compute.
use Rattle.std.proofs.Common.{refl}
use Rattle.law_cedar.specs.Rows.{TableExamples, FaultExamples}

pub tables : TableExamples
tables = record {
  attributes = refl;
  not_stored = refl;
  ancestors = refl;
  no_table = refl;
  keys = refl;
  tag_value = refl;
  no_tag = refl;
  last_entry = refl;
  members = refl;
  context = refl;
  listed = refl;
}

pub faults : FaultExamples
faults = record {
  foreign = refl;
  foreign_action = refl;
  incomplete = refl;
  context = refl;
  type = refl;
  unknown = refl;
  attribute = refl;
  tag_type = refl;
  unknown_tag = refl;
  tag = refl;
}
