-- Clauses of options are valid.
use Rattle.std.proofs.Common.{◌≡◌, true, false, ◌||◌, ap, refl}
use Rattle.law_terms.proofs.ValueOrder.{values_decided}
use Rattle.law_terms.specs.Meaning.{meaning}
use Rattle.law_terms.specs.Operators.{truth, value_inside}
use Rattle.law_terms.specs.Plain.{PlainType, BoolType, OptionType}
use Rattle.law_terms.specs.Shapes.{IsShaped}
use Rattle.law_terms.specs.ValueOrder.{value_eq}
use Rattle.law_terms.specs.Values.{Value, BoolValue, BitVecValue, StringValue, EntityValue, ExtensionValue, NoneValue, SomeValue, RecordValue, SetValue}
use Rattle.law_clauses.specs.Options.{OptionsAreValid}
use Rattle.law_clauses.proofs.Sequents.{or_one}
use Rattle.law_clauses.proofs.Structure.{is_same, same_value}

some_same : (v w : Value) → SomeValue v ≡ SomeValue w → v ≡ w
some_same v w e = ap (value_inside v) e

none_some : (ty : PlainType) (d v : Value) → IsShaped (OptionType ty) v → (value_eq v NoneValue || (value_eq v (SomeValue (value_inside d v)) || false)) ≡ true
none_some ty d NoneValue h = refl
none_some ty d (SomeValue v) h = or_one (value_eq v v) ((values_decided v v).1 refl)
none_some ty d (BoolValue b) h = absurd h
none_some ty d (BitVecValue n a) h = absurd h
none_some ty d (StringValue s) h = absurd h
none_some ty d (EntityValue e i) h = absurd h
none_some ty d (ExtensionValue x) h = absurd h
none_some ty d (RecordValue fs) h = absurd h
none_some ty d (SetValue vs) h = absurd h

true_false : (v : Value) → IsShaped BoolType v → (truth v || (value_eq v (BoolValue false) || false)) ≡ true
true_false (BoolValue true) h = refl
true_false (BoolValue false) h = refl
true_false NoneValue h = absurd h
true_false (SomeValue v) h = absurd h
true_false (BitVecValue n a) h = absurd h
true_false (StringValue s) h = absurd h
true_false (EntityValue e i) h = absurd h
true_false (ExtensionValue x) h = absurd h
true_false (RecordValue fs) h = absurd h
true_false (SetValue vs) h = absurd h

pub options_are_valid : OptionsAreValid
options_are_valid = record {
  apart = λ t ty I h. h.0;
  held = λ t u I h. is_same _ _ (some_same (meaning I t) (meaning I u) (same_value (SomeValue (meaning I t)) (SomeValue (meaning I u)) h.0));
  got = λ ty t I h. is_same (meaning I t) (meaning I t) refl;
  either = λ enums roots ty o s I g h. none_some ty (I.inside_none ty) (meaning I o) (s I g);
  truths = λ enums roots t s I g h. true_false (meaning I t) (s I g);
}
