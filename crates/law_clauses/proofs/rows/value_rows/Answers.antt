use Rattle.std.proofs.Common.{refl}
use Rattle.std.specs.Str.{chars}
use Rattle.law_clauses.proofs.rows.value_rows.Goals as goal

pub returns : goal.returns
unfolding chars
returns c = record {
  not_none = refl;
  held = refl;
  got = refl;
  some = refl;
  none = refl;
  is_false = refl;
  elements = refl;
  sets = refl;
  member = refl;
  listed = refl;
  each = refl;
  in_both = refl;
  no_subset = refl;
  subset = refl;
  subsets = refl;
  attribute = refl;
  attributes = refl;
  members = refl;
  anything = refl;
  literal = refl;
  within = refl;
  apart = refl;
  datetimes = refl;
  bits_again = refl;
  v4 = refl;
  v6 = refl;
}
