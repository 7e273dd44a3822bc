-- Texts that are read, each with its value, and texts that are refused.
use Rattle.std.specs.Prelude.{◌≡◌, ◌+◌, ◌*◌, ◌^◌, pos, negsuc, Some, None, codes}
use Rattle.smt_ext.specs.IpRanges.{Version4, Version6, loopback_v6}
use Rattle.law_extensions.specs.DatetimeTexts.{datetime_in}
use Rattle.law_extensions.specs.DecimalTexts.{decimal_in}
use Rattle.law_extensions.specs.DurationTexts.{duration_in}
use Rattle.law_extensions.specs.RangeTexts.{range_in}

-- Decimals, in ten-thousandths. The negative number `negsuc n` is -(n + 1).
pub record DecimalExamples : Type 0 where
  pub half : decimal_in (codes "-0.5") ≡ Some (negsuc 4999)
  pub four_places : decimal_in (codes "007.1234") ≡ Some (pos 71234)
  pub greatest : decimal_in (codes "922337203685477.5807") ≡ Some (pos 9223372036854775807)
  -- no digit behind the point, five digits behind it, a plus, and past 64 bits
  pub no_fraction : decimal_in (codes "1.") ≡ None
  pub five_places : decimal_in (codes "12.34567") ≡ None
  pub plus : decimal_in (codes "+1.0") ≡ None
  pub too_great : decimal_in (codes "922337203685477.5808") ≡ None

-- Durations, in milliseconds.
pub record DurationExamples : Type 0 where
  pub days_and_hours : duration_in (codes "1d2h") ≡ Some (pos 93600000)
  pub milliseconds : duration_in (codes "-5ms") ≡ Some (negsuc 4)
  pub minutes_and_milliseconds : duration_in (codes "1m5ms") ≡ Some (pos 60005)
  -- units out of order, a unit twice, no unit, no part, and past 64 bits
  pub hours_before_days : duration_in (codes "2h1d") ≡ None
  pub minutes_twice : duration_in (codes "1m2m") ≡ None
  pub bare_number : duration_in (codes "5") ≡ None
  pub minus_alone : duration_in (codes "-") ≡ None
  pub too_long : duration_in (codes "106751991168d") ≡ None

-- IP ranges. A prefix of all bits is no prefix.
pub record RangeExamples : Type 0 where
  pub ten_8 : range_in (codes "10.0.0.0/8") ≡ Some (record { family = Version4; address = 10 * 2 ^ 24; prefix = Some 8 })
  pub all_bits : range_in (codes "10.0.0.0/32") ≡ Some (record { family = Version4; address = 10 * 2 ^ 24; prefix = None })
  pub shortened : range_in (codes "::1") ≡ Some loopback_v6
  pub groups : range_in (codes "1:2::FF/64") ≡ Some (record { family = Version6; address = 2 ^ 112 + 2 * 2 ^ 96 + 255; prefix = Some 64 })
  -- a zero in front, a number past 255, a prefix past 32, "::" twice, an IPv4 address behind IPv6 groups, and no address
  pub zero_in_front : range_in (codes "010.0.0.0") ≡ None
  pub past_255 : range_in (codes "10.0.0.256") ≡ None
  pub past_32 : range_in (codes "10.0.0.0/33") ≡ None
  pub shortened_twice : range_in (codes "1::2::3") ≡ None
  pub dots_behind_colons : range_in (codes "::ffff:1.2.3.4") ≡ None
  pub no_address : range_in (codes "/8") ≡ None

-- Datetimes, in milliseconds since 1970-01-01T00:00:00Z.
pub record DatetimeExamples : Type 0 where
  pub leap_day : datetime_in (codes "2024-02-29") ≡ Some (pos 1709164800000)
  pub first_millisecond : datetime_in (codes "1970-01-01T00:00:00.001Z") ≡ Some (pos 1)
  pub west_of_utc : datetime_in (codes "2024-10-15T11:38:02.101-1134") ≡ Some (pos 1729033922101)
  -- no leap year, a leap second, an offset of 24 hours, a month in one digit, and no zone
  pub no_leap_year : datetime_in (codes "2023-02-29") ≡ None
  pub leap_second : datetime_in (codes "2024-01-01T00:00:60Z") ≡ None
  pub far_offset : datetime_in (codes "2024-01-01T00:00:00+2400") ≡ None
  pub short_month : datetime_in (codes "2024-1-01") ≡ None
  pub no_zone : datetime_in (codes "2024-01-01T00:00:00") ≡ None
