-- What the readers of the four types answer, as values of one type.
use Rattle.std.specs.Prelude.{◌≡◌, ℕ, ℤ, List}
use Rattle.smt_ext.specs.DatetimeRefusal.{IsDatetimeRefusal}
use Rattle.smt_ext.specs.DatetimeText.{IsDatetimeText}
use Rattle.smt_ext.specs.Decimal.{IsDecimalRefusal, IsDecimalText}
use Rattle.smt_ext.specs.DurationRefusal.{IsDurationRefusal}
use Rattle.smt_ext.specs.DurationText.{IsDurationText}
use Rattle.smt_ext.specs.IpText.{WritesRange}
use Rattle.smt_ext.specs.IpView.{range_of, RefusesText}
use Rattle.smt_ext.specs.Milliseconds.{datetime_value, duration_value}
use Rattle.smt_ext.specs.declared.datetime.error.DatetimeError.{DatetimeError}
use Rattle.smt_ext.specs.declared.datetime.error.DatetimeError.TheVariants as moments
use Rattle.smt_ext.specs.declared.decimal.DecimalError.{DecimalError}
use Rattle.smt_ext.specs.declared.decimal.DecimalError.TheVariants as decimals
use Rattle.smt_ext.specs.declared.ext.Ext.{Ext}
use Rattle.smt_ext.specs.declared.ext.Ext.TheVariants.{Decimal, Ipaddr, Datetime, Duration}
use Rattle.smt_ext.specs.declared.ext.ExtParseError.{ExtParseError}
use Rattle.smt_ext.specs.declared.ext.ExtParseError.TheVariants as refusals
use Rattle.smt_ext.specs.declared.error.IPError.{IPError}
use Rattle.smt_ext.specs.declared.error.IPError.TheVariants as ranges

-- ---- values

-- the value is a decimal of this number of ten-thousandths
abbrev pub IsDecimal : ℤ → Ext → Type 0
IsDecimal v (Decimal d) = d.ten_thousandths ≡ v
IsDecimal v x = ⊥

-- the value is a datetime of this number of milliseconds
abbrev pub IsDatetime : ℤ → Ext → Type 0
IsDatetime v (Datetime d) = datetime_value d ≡ v
IsDatetime v x = ⊥

-- the value is a duration of this number of milliseconds
abbrev pub IsDuration : ℤ → Ext → Type 0
IsDuration v (Duration d) = duration_value d ≡ v
IsDuration v x = ⊥

-- the text writes this value, which is a decimal
abbrev pub WritesDecimal : List ℕ → Ext → Type 0
WritesDecimal text (Decimal d) = IsDecimalText text d.ten_thousandths
WritesDecimal text x = ⊥

-- the text writes this value, which is a datetime
abbrev pub WritesDatetime : List ℕ → Ext → Type 0
WritesDatetime text (Datetime d) = IsDatetimeText text (datetime_value d)
WritesDatetime text x = ⊥

-- the text writes this value, which is a duration
abbrev pub WritesDuration : List ℕ → Ext → Type 0
WritesDuration text (Duration d) = IsDurationText text (duration_value d)
WritesDuration text x = ⊥

-- the text writes this value, which is an IP range
abbrev pub IsRangeText : List ℕ → Ext → Type 0
IsRangeText text (Ipaddr net) = WritesRange text (range_of net)
IsRangeText text x = ⊥

-- ---- refusals

-- the refusal of the reader of decimals, in which want of memory is the outer one
abbrev pub decimal_refusal : DecimalError → ExtParseError
decimal_refusal decimals.Memory = refusals.Memory
decimal_refusal e = refusals.DecimalError e

-- the same of the readers of datetimes and durations
abbrev pub datetime_refusal : DatetimeError → ExtParseError
datetime_refusal moments.Memory = refusals.Memory
datetime_refusal e = refusals.DatetimeError e

-- the same of the reader of IP ranges
abbrev pub range_refusal : IPError → ExtParseError
range_refusal ranges.Memory = refusals.Memory
range_refusal e = refusals.IPError e

-- it is the refusal of the text by the reader of decimals
pub record RefusesDecimal (text : List ℕ) (e : ExtParseError) : Type 0 where
  pub inner : DecimalError
  pub refused : IsDecimalRefusal text inner
  pub wrapped : e ≡ decimal_refusal inner

-- it is the refusal of the text by the reader of datetimes
pub record RefusesDatetime (text : List ℕ) (e : ExtParseError) : Type 0 where
  pub inner : DatetimeError
  pub refused : IsDatetimeRefusal text inner
  pub wrapped : e ≡ datetime_refusal inner

-- it is the refusal of the text by the reader of durations
pub record RefusesDuration (text : List ℕ) (e : ExtParseError) : Type 0 where
  pub inner : DatetimeError
  pub refused : IsDurationRefusal text inner
  pub wrapped : e ≡ datetime_refusal inner

-- it is the refusal of the text by the reader of IP ranges
pub record RefusesRange (text : List ℕ) (e : ExtParseError) : Type 0 where
  pub inner : IPError
  pub refused : RefusesText text inner
  pub wrapped : e ≡ range_refusal inner
