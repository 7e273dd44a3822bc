-- Worked examples of the functions that read texts, by computation.
use Rattle.std.proofs.Common.{refl}
use Rattle.std.specs.Fmt.{digits}
use Rattle.std.specs.Net.Reader.{read_ipv4, read_ipv6, read_number, read_octet, read_segment, read_segments}
use Rattle.jiff_core.specs.Calendar.{days_from_civil, day_count, days_of_years, days_of_months}
use Rattle.law_texts.specs.Front.{byte_at}
use Rattle.smt_ext.specs.DatetimeReading.{clock_at, day_at, field_at, fraction_at, offset_at, stamp_at, zone_at}
use Rattle.law_extensions.specs.TextRows.{DatetimeExamples, DecimalExamples, DurationExamples, RangeExamples}

pub decimal_examples : DecimalExamples
decimal_examples = record { half = refl; four_places = refl; greatest = refl; no_fraction = refl; five_places = refl; plus = refl; too_great = refl }

pub duration_examples : DurationExamples
duration_examples = record {
  days_and_hours = refl;
  milliseconds = refl;
  minutes_and_milliseconds = refl;
  hours_before_days = refl;
  minutes_twice = refl;
  bare_number = refl;
  minus_alone = refl;
  too_long = refl;
}

pub range_examples : RangeExamples
unfolding digits read_ipv4 read_ipv6 read_number read_octet read_segment read_segments
range_examples = record {
  ten_8 = refl;
  all_bits = refl;
  shortened = refl;
  groups = refl;
  zero_in_front = refl;
  past_255 = refl;
  past_32 = refl;
  shortened_twice = refl;
  dots_behind_colons = refl;
  no_address = refl;
}

pub datetime_examples : DatetimeExamples
unfolding stamp_at day_at field_at clock_at fraction_at offset_at zone_at byte_at days_from_civil day_count days_of_years days_of_months
datetime_examples = record {
  leap_day = refl;
  first_millisecond = refl;
  west_of_utc = refl;
  no_leap_year = refl;
  leap_second = refl;
  far_offset = refl;
  short_month = refl;
  no_zone = refl;
}
