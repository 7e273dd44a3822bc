-- Texts at the limits, and their values.
use Rattle.std.specs.Prelude.{pos, negsuc, Some, true, codes}
use Rattle.smt_ext.specs.declared.datetime.stamp.Zone.TheVariants.{Offset}
use Rattle.smt_ext.specs.DatetimeText.{HasStamp, IsDatetimeText}
use Rattle.smt_ext.specs.Decimal.{IsDecimalText}
use Rattle.smt_ext.specs.DurationText.{IsDurationText}

-- Texts of each kind with their values; `negsuc n` is -(n + 1).
pub record WorkedTexts : Type 0 where
  pub least_decimal : IsDecimalText (codes "-922337203685477.5808") (negsuc 9223372036854775807)
  pub small_decimal : IsDecimalText (codes "-0.0001") (negsuc 0)
  pub written_datetime : HasStamp (codes "2024-10-15T11:38:02.101-1134") (record {
    day = record { year = 2024; month = 10; day = 15 };
    clock = Some (record { hour = 11; minute = 38; second = 2; millisecond = Some 101; zone = Offset true 11 34 });
  })
  -- 11 hours and 34 minutes west of UTC, 5 hours and 30 minutes east of it
  pub western_datetime : IsDatetimeText (codes "2024-10-15T11:38:02.101-1134") (pos 1729033922101)
  pub eastern_datetime : IsDatetimeText (codes "1969-12-31T23:59:59.999+0530") (negsuc 19800000)
  pub negative_duration : IsDurationText (codes "-0h2s1ms") (negsuc 2000)
  pub least_duration : IsDurationText (codes "-9223372036854775808ms") (negsuc 9223372036854775807)
