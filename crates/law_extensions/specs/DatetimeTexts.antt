-- Datetimes, read from their texts.
use Rattle.std.specs.Prelude.{ℕ, Bool, not, ◌&&◌, nat_le, ℤ, pos, ◌+ℤ◌, ◌*ℤ◌, Option, List}
use Rattle.jiff_core.specs.Calendar.{days_from_civil, days_in_month}
use Rattle.smt_ext.specs.DatetimeReading.{stamp_at}
use Rattle.law_texts.specs.Options.{◌>>=◌}
use Rattle.smt_ext.specs.DatetimeText.{clock_value, is_barred, is_time}
use Rattle.smt_ext.specs.declared.datetime.stamp.Day.{Day}
use Rattle.smt_ext.specs.declared.datetime.stamp.Stamp.{Stamp}
use Rattle.law_extensions.specs.Signs.{long_where}

-- the calendar has this day, of a year from 0 on
abbrev pub is_real_day : Day → Bool
is_real_day d = nat_le 1 d.month && (nat_le d.month 12 && (nat_le 1 d.day && nat_le d.day (days_in_month (pos d.year) d.month)))

-- the day number times the milliseconds of a day, and the time
abbrev pub stamp_value : Stamp → ℤ
stamp_value s = days_from_civil (pos s.day.year) s.day.month s.day.day *ℤ pos 86400000 +ℤ clock_value s.clock

-- the number of milliseconds since 1970-01-01T00:00:00Z, where these are a day of the calendar, a time of
-- the day and no far offset
abbrev pub datetime_of : Stamp → Option ℤ
datetime_of s = long_where (not (is_barred s.clock) && (is_real_day s.day && is_time s.clock)) (stamp_value s)

-- the milliseconds since 1970-01-01T00:00:00Z of a datetime's text, or none where the text is no datetime
abbrev pub datetime_in : List ℕ → Option ℤ
datetime_in text = stamp_at text >>= datetime_of
