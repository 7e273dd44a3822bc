-- Decimals, datetimes and durations of one number are one value.
use Rattle.std.proofs.Common.{◌≡◌, ◌^◌, ◌<◌}
use lib.Signed.{mag}
use mathlib.Core.HLevel.{is_prop→PathP}
use native.Mathlib.Bridge.{le_prop}
use Rattle.smt_ext.specs.declared.datetime.Datetime.{Datetime}
use Rattle.smt_ext.specs.declared.datetime.Duration.{Duration}
use Rattle.smt_ext.specs.declared.decimal.Decimal.{Decimal}

pub same_decimal : (a b : Decimal) → a.ten_thousandths ≡ b.ten_thousandths → a ≡ b
same_decimal a b e = λ i. record {
  ten_thousandths = e i;
  fits = record { sfits = is_prop→PathP (λ j. mag (e j) < 2 ^ 63) (λ j. le_prop) a.fits.sfits b.fits.sfits i };
}

pub same_datetime : (a b : Datetime) → a.milliseconds ≡ b.milliseconds → a ≡ b
same_datetime a b e = λ i. record {
  milliseconds = e i;
  fits = record { sfits = is_prop→PathP (λ j. mag (e j) < 2 ^ 63) (λ j. le_prop) a.fits.sfits b.fits.sfits i };
}

pub same_duration : (a b : Duration) → a.milliseconds ≡ b.milliseconds → a ≡ b
same_duration a b e = λ i. record {
  milliseconds = e i;
  fits = record { sfits = is_prop→PathP (λ j. mag (e j) < 2 ^ 63) (λ j. le_prop) a.fits.sfits b.fits.sfits i };
}
