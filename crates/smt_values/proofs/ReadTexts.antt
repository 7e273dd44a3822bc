-- Values of extension types, as they are read of texts and of arguments.
use Rattle.std.proofs.Common.{◌≡◌, ℕ, ◌<◌, ◌≤◌, ℤ, List, [], ◌∷◌, Option, Some, None, Ok, Err, Result, IfOk, option_map, length, refl, sym, ap, ◌∙◌, arith}
use Rattle.law_numbers.specs.Extensions.{DecimalOf}
use Rattle.law_texts.specs.Options.{◌>>=◌}
use Rattle.smt_ext.specs.DatetimeText.{IsDatetimeText}
use Rattle.smt_ext.specs.Decimal.{IsDecimalText}
use Rattle.smt_ext.specs.DurationText.{IsDurationText}
use Rattle.smt_ext.specs.ExtOrder.{plain_value}
use Rattle.smt_ext.specs.Extensions.{IsRangeText, RefusesRange, WritesDecimal}
use Rattle.smt_ext.specs.IpOrder.{plain_range}
use Rattle.smt_ext.specs.IpView.{IsNoRange, RefusesText, range_of}
use Rattle.smt_ext.specs.declared.ext.Ext.{Ext}
use Rattle.smt_ext.specs.declared.ext.Ext.TheVariants.{Decimal, Ipaddr, Datetime, Duration}
use Rattle.smt_ext.specs.declared.ext.ExtParseError.{ExtParseError}
use Rattle.smt_ext.specs.declared.error.IPError.{IPError}
use Rattle.smt_ext.specs.declared.error.IPError.TheVariants.{ParseError, BitVecError, ExepectedOctet, Memory}
use Rattle.law_extensions.specs.DatetimeTexts.{datetime_in}
use Rattle.law_extensions.specs.DecimalTexts.{decimal_in}
use Rattle.law_extensions.specs.DurationTexts.{duration_in}
use Rattle.law_extensions.specs.RangeTexts.{range_in}
use Rattle.law_extensions.proofs.DatetimeTexts.{datetimes_are_read}
use Rattle.law_extensions.proofs.DecimalTexts.{decimals_are_read}
use Rattle.law_extensions.proofs.DurationTexts.{durations_are_read}
use Rattle.law_extensions.proofs.RangeTexts.{ranges_are_read}
use Rattle.smt_values.specs.Constructors.{sole_text, offset_of}
use Rattle.smt_values.specs.ValueView.{arguments_of}
use Rattle.smt_values.specs.declared.expression.RestrictedExpr.{RestrictedExpr}

-- ---- what is read is the value

pub decimal_read : (text : List ℕ) (x : Ext) → WritesDecimal text x → Some (plain_value x) ≡ option_map DecimalOf (decimal_in text)
decimal_read text (Decimal d) h = ap (option_map DecimalOf) (sym ((decimals_are_read text d.ten_thousandths).1 h))
decimal_read text (Ipaddr ip) h = absurd h
decimal_read text (Datetime dt) h = absurd h
decimal_read text (Duration d) h = absurd h

pub range_read : (text : List ℕ) (x : Ext) → IsRangeText text x → Some (plain_value x) ≡ option_map plain_range (range_in text)
range_read text (Ipaddr ip) h = ap (option_map plain_range) (sym ((ranges_are_read text (range_of ip)).1 h))
range_read text (Decimal d) h = absurd h
range_read text (Datetime dt) h = absurd h
range_read text (Duration d) h = absurd h

pub datetime_read : (text : List ℕ) (v : ℤ) → IsDatetimeText text v → Some v ≡ datetime_in text
datetime_read text v h = sym ((datetimes_are_read text v).1 h)

pub duration_read : (text : List ℕ) (v : ℤ) → IsDurationText text v → Some v ≡ duration_in text
duration_read text v h = sym ((durations_are_read text v).1 h)

-- ---- what is refused has no value

nothing : {A : Type 0} (o : Option A) → ((a : A) → o ≡ Some a → ⊥) → None ≡ o
nothing (Some a) h = absurd (h a refl)
nothing None h = refl

pub no_decimal : (text : List ℕ) → ((v : ℤ) → IsDecimalText text v → ⊥) → None ≡ option_map DecimalOf (decimal_in text)
no_decimal text h = ap (option_map DecimalOf) (nothing (decimal_in text) (λ v e. h v ((decimals_are_read text v).0 e)))

no_range_text : (text : List ℕ) (e : IPError) → RefusesText text e → IsNoRange text
no_range_text text (ParseError payload) h = h.1
no_range_text text (BitVecError e) h = absurd h
no_range_text text ExepectedOctet h = absurd h
no_range_text text Memory h = h

pub no_range : (text : List ℕ) (e : ExtParseError) → RefusesRange text e → None ≡ option_map plain_range (range_in text)
no_range text e h = ap (option_map plain_range) (nothing (range_in text) (λ r is. no_range_text text h.inner h.refused r ((ranges_are_read text r).0 is)))

pub no_datetime : (text : List ℕ) → ((v : ℤ) → IsDatetimeText text v → ⊥) → None ≡ datetime_in text
no_datetime text h = nothing (datetime_in text) (λ v e. h v ((datetimes_are_read text v).0 e))

pub no_duration : (text : List ℕ) → ((v : ℤ) → IsDurationText text v → ⊥) → None ≡ duration_in text
no_duration text h = nothing (duration_in text) (λ v e. h v ((durations_are_read text v).0 e))

-- ---- arguments

-- what a text is read to is what its call is
pub sole_read : {A B E : Type 0} (read : List ℕ → Option B) (view : A → B) (es : List RestrictedExpr) (text given : List ℕ) (r : Result (Option A) E) → Some text ≡ sole_text (arguments_of es) → given ≡ text → IfOk r (λ o. option_map view o ≡ read given)
    → IfOk r (λ o. option_map view o ≡ (sole_text (arguments_of es) >>= read))
sole_read read view es text given (Ok o) sole same h = h ∙ ap read same ∙ ap (λ t. t >>= read) sole
sole_read read view es text given (Err e) sole same h = h

pub more_arguments : (es : List RestrictedExpr) → 2 ≤ length es → None ≡ sole_text (arguments_of es)
more_arguments [] l = absurd (omega (arith, l))
more_arguments (e ∷ []) l = absurd (omega (arith, l))
more_arguments (d ∷ e ∷ es) l = refl

pub one_argument : (es : List RestrictedExpr) → 1 ≤ length es → length es < 2 → None ≡ offset_of (arguments_of es)
one_argument [] l m = absurd (omega (arith, l))
one_argument (e ∷ []) l m = refl
one_argument (d ∷ e ∷ es) l m = absurd (omega (arith, m))

pub many_arguments : (es : List RestrictedExpr) → 3 ≤ length es → None ≡ offset_of (arguments_of es)
many_arguments [] l = absurd (omega (arith, l))
many_arguments (e ∷ []) l = absurd (omega (arith, l))
many_arguments (d ∷ e ∷ []) l = absurd (omega (arith, l))
many_arguments (d ∷ e ∷ f ∷ es) l = refl
