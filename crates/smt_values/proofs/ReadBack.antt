-- The call that is made of a value of an extension type says that value.
use Rattle.std.proofs.Common.{◌≡◌, ℕ, ◌^◌, ◌<◌, ◌+ℤ◌, ◌-ℤ◌, true, List, [], ◌∷◌, ◌++◌, Some, None, Result, Ok, Err, option_map, ℤ, pos, negsuc, unsigned_abs, length, length-append, refl, sym, ap, ◌∙◌, arith, lit<, decimal}
use Rattle.std.specs.Fmt.{signed_decimal}
use Rattle.std.proofs.Math.IntN.{+ℤ_idl, +ℤ-neg_ℤ_cancel}
use Rattle.std.proofs.lemmas.Fmt.{digits_decimal, digits_value-decimal, decimal_nonempty}
use Rattle.law_numbers.specs.Extensions.{DecimalOf, DatetimeOf, DurationOf}
use Rattle.law_numbers.specs.Longs.{IsLong}
use Rattle.law_texts.specs.Digits.{minus_if, signed_number}
use Rattle.law_texts.specs.Front.{byte_at}
use Rattle.law_texts.proofs.Numbers.{numeral_model, numeral_from}
use Rattle.smt_ext.specs.DatetimeReading.{clock_at, day_at, field_at, fraction_at, stamp_at, zone_at}
use Rattle.smt_ext.specs.DurationText.{IsDurationText}
use Rattle.smt_ext.specs.ExtOrder.{plain_value}
use Rattle.smt_ext.specs.IpOrder.{plain_range}
use Rattle.smt_ext.specs.IpPrinted.{range_text}
use Rattle.smt_ext.specs.IpView.{range_of}
use Rattle.smt_ext.specs.Printed.{decimal_text, is_below_zero}
use Rattle.smt_ext.specs.declared.ext.Ext.{Ext}
use Rattle.smt_ext.specs.declared.ext.Ext.TheVariants.{Decimal, Ipaddr, Datetime, Duration}
use Rattle.smt_ext.specs.declared.net.IPNet.{IPNet}
use Rattle.smt_ext.specs.declared.net.IPNet.TheVariants.{V4, V6}
use Rattle.smt_ext.proofs.IpPrinted.{net_is_read}
use Rattle.smt_ext.proofs.PrintedDecimals.{printed_is_read, signed_again}
use Rattle.law_extensions.specs.DatetimeTexts.{datetime_in}
use Rattle.law_extensions.specs.DurationTexts.{duration_in}
use Rattle.law_extensions.specs.Signs.{long_where}
use Rattle.law_extensions.proofs.DecimalTexts.{decimals_are_read}
use Rattle.law_extensions.proofs.DurationTexts.{durations_are_read}
use Rattle.law_extensions.proofs.TextRows.{datetime_examples}
use Rattle.law_extensions.proofs.RangeTexts.{ranges_are_read}
use Rattle.law_extensions.proofs.Signs.{long_passes, long_put, long_there}
use Rattle.smt_values.specs.Constructed.{constructor_of, milliseconds_text}
use Rattle.smt_values.specs.Constructors.{later, value_of_expression, value_of_value}
use Rattle.smt_values.specs.PlainValues.{ExtensionValue, PlainValue}
use Rattle.smt_values.specs.RefusedValues.{IsAnswer, IsSameUnlessMemory, IsValueRefusal}
use Rattle.smt_values.specs.ValueView.{plain_value_of}
use Rattle.smt_values.specs.declared.ext_error.ExtError.{ExtError}
use Rattle.smt_values.specs.declared.ext_error.ExtError.TheVariants.{FromValue, FromRestrictedExpr, DatetimeError, DecimalError, IPError, EvaluationError, ExtensionFunctionNotFound, UnsupportedPartialValue, ExtensionFunctionParseError, Memory}
use Rattle.smt_values.specs.declared.value.Value.{Value}

-- ---- spans of milliseconds

small_number : (v : ℤ) → IsLong v → unsigned_abs v < 2 ^ 64
small_number (pos n) h = omega arith
small_number (negsuc n) h = omega arith

signed_text : (v : ℤ) (unit : List ℕ) → signed_decimal v ++ unit ≡ minus_if (is_below_zero v) ++ (decimal (unsigned_abs v) ++ unit)
signed_text (pos n) unit = refl
signed_text (negsuc n) unit = refl

more_than_none : (ds unit : List ℕ) → 0 < length ds → 0 < length (ds ++ unit)
more_than_none ds unit l = let e = length-append ds unit in omega arith

milliseconds_are_read : (v : ℤ) → IsLong v → IsDurationText (milliseconds_text v) v
milliseconds_are_read v h =
    let n = unsigned_abs v in
    let small = small_number v h in
    let there = decimal_nonempty n small in
    record {
      negative = is_below_zero v;
      parts = record { days = None; hours = None; minutes = None; seconds = None; milliseconds = Some (decimal n) };
      spelled = signed_text v (109 ∷ 115 ∷ []);
      numerals = (tt, tt, tt, tt, numeral_from (decimal n) there (digits_decimal numeral_model n small));
      some_part = more_than_none (decimal n) (109 ∷ 115 ∷ []) there;
      number = signed_again v ∙ ap (signed_number (is_below_zero v)) (sym (rw (digits_value-decimal numeral_model n small) (omega arith)));
      fits = h;
    }

span_read : (v : ℤ) → IsLong v → duration_in (milliseconds_text v) ≡ Some v
span_read v h = (durations_are_read (milliseconds_text v) v).1 (milliseconds_are_read v h)

-- ---- datetimes

-- Where 1970-01-01T00:00:00.001Z is the millisecond 1, 1970-01-01 is the millisecond 0.
one_before : (day : ℤ) → long_where true (day +ℤ pos 1) ≡ Some (pos 1) → long_where true (day +ℤ pos 0) ≡ Some (pos 0)
one_before day e =
    let there : pos 1 ≡ day +ℤ pos 1 = (long_there true (day +ℤ pos 1) (pos 1) e).1 in
    let none : pos 0 ≡ day = ap (λ z. z -ℤ pos 1) there ∙ +ℤ-neg_ℤ_cancel day (pos 1) in
    long_put true (day +ℤ pos 0) (pos 0) refl (ap (λ z. z +ℤ pos 0) none) (record { sfits = lit< tt })

pub start_read : datetime_in (49 ∷ 57 ∷ 55 ∷ 48 ∷ 45 ∷ 48 ∷ 49 ∷ 45 ∷ 48 ∷ 49 ∷ []) ≡ Some (pos 0)
unfolding stamp_at day_at field_at clock_at fraction_at zone_at byte_at
start_read = search (one_before, datetime_examples.first_millisecond)

later_than_start : (v : ℤ) → IsLong v → later (pos 0) v ≡ Some v
later_than_start v h = rw (+ℤ_idl v, long_passes v h) refl

-- ---- all kinds

range_is : (net : IPNet) → value_of_expression (constructor_of (plain_value (Ipaddr net))) ≡ Some (plain_value (Ipaddr net))
range_is (V4 c) = ap (option_map plain_range) ((ranges_are_read (range_text (range_of (V4 c))) (range_of (V4 c))).1 (net_is_read (V4 c)))
range_is (V6 c) = ap (option_map plain_range) ((ranges_are_read (range_text (range_of (V6 c))) (range_of (V6 c))).1 (net_is_read (V6 c)))

moment_is : (v : ℤ) → IsLong v → value_of_expression (constructor_of (DatetimeOf v)) ≡ Some (DatetimeOf v)
moment_is v h = rw (start_read, span_read v h, later_than_start v h) refl

pub constructed_is_read : (x : Ext) → value_of_expression (constructor_of (plain_value x)) ≡ Some (plain_value x)
constructed_is_read (Decimal d) = ap (option_map DecimalOf) ((decimals_are_read (decimal_text d.ten_thousandths) d.ten_thousandths).1 (printed_is_read d.ten_thousandths d.fits))
constructed_is_read (Ipaddr net) = range_is net
constructed_is_read (Datetime dt) = moment_is dt.milliseconds dt.fits
constructed_is_read (Duration d) = ap (option_map DurationOf) (span_read d.milliseconds d.fits)

pub constructed_value_is_read : (x : Ext) → value_of_value (ExtensionValue (constructor_of (plain_value x))) ≡ Some (plain_value x)
constructed_value_is_read x = constructed_is_read x

-- no value is another, and none is none
answered : (x : Ext) (v : PlainValue) (answer : Result Ext ExtError) → value_of_value v ≡ Some (plain_value x) → IsAnswer v answer → IsSameUnlessMemory x answer
answered x v (Ok y) e h = let same : Some (plain_value y) ≡ Some (plain_value x) = sym h ∙ e in cc
answered x v (Err e) is h = refused e h
  where
    refused : (e : ExtError) → IsValueRefusal v e → e ≡ Memory
    refused Memory h = refl
    refused (FromValue given) h = absurd (let wrong : None ≡ Some (plain_value x) = sym h.1 ∙ is in cc)
    refused (FromRestrictedExpr given) h = absurd h
    refused (DatetimeError inner) h = absurd h
    refused (DecimalError inner) h = absurd h
    refused (IPError inner) h = absurd h
    refused EvaluationError h = absurd h
    refused (ExtensionFunctionNotFound name) h = absurd h
    refused UnsupportedPartialValue h = absurd h
    refused ExtensionFunctionParseError h = absurd h

pub constructed_is_answered : (x : Ext) (v : Value) (answer : Result Ext ExtError) → plain_value_of v ≡ ExtensionValue (constructor_of (plain_value x)) → IsAnswer (plain_value_of v) answer → IsSameUnlessMemory x answer
constructed_is_answered x v answer made h = answered x (plain_value_of v) answer (ap value_of_value made ∙ constructed_value_is_read x) h
