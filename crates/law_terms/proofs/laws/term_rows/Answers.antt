use Rattle.std.proofs.Common.{arith, refl, rules, sym}
use Rattle.std.proofs.lemmas.Bool.{false≢true}
use Rattle.std.specs.Str.{chars}
use Rattle.law_terms.specs.Rows.{TypeRows, ValueRows, ReachedRows}
use Rattle.law_terms.proofs.laws.term_rows.Goals as goal

types : TypeRows
types = record { of_parts = refl; operators = refl; tests = refl; widths_differ = refl; no_bits = refl; truths = refl; no_truths = refl; negated = refl; chosen = refl; negations = refl; no_negations = refl; wider = refl; members = refl; sets = refl; no_sets = refl; options = refl; attributes = refl; likes = refl; functions = refl; addresses = refl; ill_typed = refl; no_sets_of_order = refl; in_order = refl; well_typed = refl }

values : ValueRows
unfolding chars
values = record {
  last_byte = (refl, omega arith);
  past_byte = λ h. omega arith;
  other_width = λ h. omega arith;
  last_point = (omega arith, tt);
  past_point = λ h. omega arith;
  member = (refl, refl);
  no_member = λ h. false≢true h.1;
  any_id = (refl, search rules);
  other_entity = λ h. cc;
  least_long = search rules;
  below_long = λ h. omega arith;
  past_long = λ h. omega arith;
  other_kind = λ h. h;
  last_range = (omega arith, omega arith);
  past_prefix = λ h. omega arith;
  past_address = λ h. omega arith;
  long_range = (omega arith, omega arith);
  past_long_prefix = λ h. omega arith;
  set = (refl, search rules);
  set_turned = λ h. false≢true h.0;
  set_twice = λ h. false≢true h.0;
  none = tt;
  some_other = λ h. h;
  fields = search rules;
  fields_turned = λ h. h.1;
  field_missing = λ h. h.2;
  defaults = refl;
}

reached : ReachedRows
reached = record {
  parts_first = refl;
  variables = refl;
  functions = refl;
  options = refl;
  selectors = refl;
  types = refl;
  given_variable = (tt, tt);
  given_no_variable = λ h. h.0;
  given_function = (tt, (search rules, tt));
  given_no_function = λ h. omega arith;
  given_inside = (tt, ((refl, omega arith), tt));
  given_no_inside = λ h. h.1.0;
  given_selector = (tt, (search rules, tt));
  given_no_selector = λ h. h.1.0.elsewhere;
  distinct = search rules;
  twice = λ h. false≢true (sym h.0);
  other_family = tt;
  own_family = λ h. h;
}

pub returns : goal.returns
unfolding chars
returns c = record { types = types; values = values; reached = reached; sets = refl; records = refl; options = refl; ids = refl; negation = refl; ill_typed = refl; ill_typed_value = refl; shifted = refl; past_ascii = refl; too_wide = refl }
