use Rattle.std.proofs.Common.{◌≡◌, ℕ, [], ◌∷◌, refl}
use Rattle.std.specs.Prelude.{Some, None, codes}
use Rattle.std.specs.Str.{chars}
use Rattle.law_folding.specs.FoldRows.{StringRows, byte, one_byte}
use Rattle.law_folding.specs.RecordOf.{IsRecordOf}
use Rattle.law_folding.specs.SetOf.{IsSetOf}
use Rattle.law_folding.proofs.SetOfElements.{set_of_elements}
use Rattle.law_folding.proofs.laws.fold_rows.Goals as goal
use Rattle.law_terms.specs.Defaults.{default_interpretation}
use Rattle.law_terms.specs.Plain.{BitVecType}
use Rattle.law_terms.specs.TermSets.{set_term}
use Rattle.law_terms.specs.Typing.{Typed}
use Rattle.law_terms.specs.ValueOrder.{values}
use Rattle.law_terms.specs.Values.{BitVecValue, SetValue}

string_rows : StringRows
unfolding chars
string_rows = record { applied_values = λ I. refl; matched = refl; empty = refl; stays = refl }

a_byte : (n : ℕ) → Typed (byte n) (BitVecType 8)
a_byte n = record { parts = refl; type = refl }

lacks_one : IsSetOf (BitVecType 8) (byte 1 ∷ byte 2 ∷ []) (set_term (BitVecType 8) (byte 1 ∷ [])) → ⊥
lacks_one s = let e : SetValue (values (BitVecValue 8 1 ∷ [])) ≡ SetValue (values (BitVecValue 8 1 ∷ BitVecValue 8 2 ∷ [])) = s.value (default_interpretation []) in cc

not_first : IsRecordOf ((codes "a", byte 1) ∷ (codes "a", byte 2) ∷ []) one_byte → ⊥
not_first r = let e : BitVecValue 8 1 ≡ BitVecValue 8 2 = r.value (default_interpretation []) (codes "a") in cc

not_more : IsRecordOf [] one_byte → ⊥
not_more r = let e : Some (BitVecType 8) ≡ None = r.types (codes "a") in cc

pub returns : goal.returns
returns c = record {
  connectives = record { applied_values = λ I. refl; applied_bits = λ I. refl; double_negation = refl; opposites = refl; opposites_turned = refl; opposite_negations = refl; no_opposites = refl; no_contradiction = refl; and_stays = refl; excluded_middle = refl; from_false = refl; and_of_known = refl; or_of_known = refl; not_of_known = refl; stays = refl; any_of_none = refl; any_in_turn = refl; any_true = refl };
  equality = record { eq_true = refl; eq_false = refl; eq_literals = refl; eq_inside = refl; eq_none = refl; eq_stays = refl; eq_same = refl; ite_known = refl; ite_stays = refl; ite_guard = refl; ite_negated = refl; ite_and = refl; ite_or = refl; ite_inside = refl };
  bits = record { negation = refl; negation_twice = refl; sum = refl; each = refl; each_test = refl; each_test_of_equal = refl; each_test_of_small = refl; each_test_of_least = refl; sum_stays = refl; widths_differ = refl; shift = refl; far_shift = refl; far_shift_right = refl; less = refl; less_unsigned = refl; less_stays = refl; least = refl; not_least = refl; sum_overflows = refl; difference_overflows = refl; product_overflows = refl; extended = refl; extended_stays = refl; no_bits = refl };
  strings = string_rows;
  sets = record { applied_values = λ I. refl; applied_empty = λ I. refl; applied_inter = λ I. refl; each_once = refl; set_of_bytes = set_of_elements (BitVecType 8) (byte 2 ∷ byte 1 ∷ byte 2 ∷ []) _ refl (a_byte 2, (a_byte 1, (a_byte 2, tt))); value_of_bytes = λ I. refl; set_lacks_one = lacks_one; member = refl; member_stays = refl; member_of_unknown = refl; subset = refl; subset_stays = refl; inter = refl; inter_known = refl; inter_first = refl; inter_stays = refl; is_empty = refl; is_empty_stays = refl; intersect = refl; intersect_stays = refl };
  options = record { applied_values = λ I. refl; applied_guards = λ I. refl; held = refl; is_none_known = refl; is_none_stays = refl; is_none_of_choices = refl; other_choices = refl; choice_of_no_option = refl; is_some_known = refl; guarded = refl; guarded_stays = refl; if_some_known = refl; if_some_stays = refl; any_none_known = refl; if_all_some_known = refl };
  records = record { applied_values = λ I. refl; no_pairs = refl; in_order = refl; last_stays = refl; prefix_first = refl; tagged = refl; not_first = not_first; not_more = not_more; known = refl; tag_parts = refl; stays = refl; no_record = refl };
  extensions = record { applied_values = λ I. refl; applied_times = λ I. refl; applied_other_family = λ I. refl; decimals = refl; from_durations = refl; from_datetimes = refl; to_durations = refl; to_datetimes = refl; is_v4 = refl; addresses_v4 = refl; addresses_v6 = refl; prefixes_v4 = refl; prefixes_v6 = refl; other_family_stays = refl; other_kind_stays = refl; other_width_stays = refl; variable_stays = refl };
  functions = record { values = λ I. refl; applied_values = λ I. refl; at_key = refl; at_no_key = refl; at_variable = refl; choices_folded = refl; uninterpreted = refl };
}
