-- The texts of datetimes.
use Rattle.std.specs.Prelude.{◌≡◌, ℕ, ◌+◌, ◌*◌, ◌<◌, Bool, true, false, ◌&&◌, ◌||◌, ◌==◌, nat_lt, if◌then◌else◌, IsTrue, ℤ, pos, ◌+ℤ◌, ◌-ℤ◌}
use Rattle.std.specs.Prelude.{◌*ℤ◌, Option, Some, None, unwrap_or, codes, List, [], ◌++◌}
use Rattle.jiff.specs.Words.{IsDate, IsYmd, epoch_day}
use Rattle.jiff.specs.Types.{Date}
use Rattle.smt_ext.specs.declared.datetime.stamp.Day.{Day}
use Rattle.smt_ext.specs.declared.datetime.stamp.Clock.{Clock}
use Rattle.smt_ext.specs.declared.datetime.stamp.Stamp.{Stamp}
use Rattle.smt_ext.specs.declared.datetime.stamp.Zone.{Zone}
use Rattle.smt_ext.specs.declared.datetime.stamp.Zone.TheVariants.{Utc, Offset}
use Rattle.law_texts.specs.Digits.{padded, signed_number}
use Rattle.law_numbers.specs.Longs.{IsLong}

-- ---- the shape: YYYY-MM-DD, alone or with Thh:mm:ss, an optional .SSS, and Z or an offset hhmm behind its sign

-- `YYYY-MM-DD`
abbrev pub day_text : Day → List ℕ
day_text d = padded 4 d.year ++ (codes "-" ++ (padded 2 d.month ++ (codes "-" ++ padded 2 d.day)))

-- `Z`, or an offset as `+hhmm` or `-hhmm`
abbrev pub zone_text : Zone → List ℕ
zone_text Utc = codes "Z"
zone_text (Offset west hours minutes) = (if west then codes "-" else codes "+") ++ (padded 2 hours ++ padded 2 minutes)

-- `.SSS`, or nothing
abbrev pub fraction_text : Option ℕ → List ℕ
fraction_text None = []
fraction_text (Some milliseconds) = codes "." ++ padded 3 milliseconds

-- `Thh:mm:ss`, with a fraction where there is one, and the zone
abbrev pub clock_text : Option Clock → List ℕ
clock_text None = []
clock_text (Some c) =
    codes "T" ++ (padded 2 c.hour ++ (codes ":" ++ (padded 2 c.minute ++ (codes ":" ++ (padded 2 c.second
    ++ (fraction_text c.millisecond ++ zone_text c.zone))))))

-- `2024-10-15` or `2024-10-15T11:38:02.101-1134`, by the numbers
abbrev pub stamp_text : Stamp → List ℕ
stamp_text s = day_text s.day ++ clock_text s.clock

-- each number of a date has no more digits than its place
abbrev pub DayFits : Day → Type 0
DayFits d = (d.year < 10000) × (d.month < 100) × (d.day < 100)

-- the hours and minutes of an offset have two digits at most
abbrev pub ZoneFits : Zone → Type 0
ZoneFits Utc = Unit {0}
ZoneFits (Offset west hours minutes) = (hours < 100) × (minutes < 100)

-- milliseconds have three digits at most
abbrev pub FractionFits : Option ℕ → Type 0
FractionFits None = Unit {0}
FractionFits (Some milliseconds) = milliseconds < 1000

-- each number of a time has no more digits than its place
abbrev pub ClockFits : Option Clock → Type 0
ClockFits None = Unit {0}
ClockFits (Some c) = (c.hour < 100) × (c.minute < 100) × (c.second < 100) × FractionFits c.millisecond × ZoneFits c.zone

-- The text is written with these numbers: it has the shape, and may still be no date or time, as `2023-02-29`.
pub record HasStamp (text : List ℕ) (s : Stamp) : Type 0 where
  pub spelled : text ≡ stamp_text s
  pub day : DayFits s.day
  pub clock : ClockFits s.clock

-- ---- which of them are datetimes

-- an offset of 24 hours or more, or with 60 minutes or more
abbrev pub is_far : Zone → Bool
is_far Utc = false
is_far (Offset west hours minutes) = nat_lt 23 hours || nat_lt 59 minutes

-- a leap second, or a far offset: such a text is refused like one of another shape
abbrev pub is_barred : Option Clock → Bool
is_barred None = false
is_barred (Some c) = (c.second == 60) || is_far c.zone

-- the numbers are a time of the day, in which the hour is below 24, and the minute and the second below 60
abbrev pub is_time : Option Clock → Bool
is_time None = true
is_time (Some c) = nat_lt c.hour 24 && (nat_lt c.minute 60 && nat_lt c.second 60)

-- a date of the calendar, which is that of civil dates as the library jiff has it
abbrev pub IsRealDay : Day → Type 0
IsRealDay d = IsDate (pos d.year) (pos d.month) (pos d.day)

-- a date of the calendar and a time of the day
abbrev pub IsReal : Stamp → Type 0
IsReal s = IsRealDay s.day × IsTrue (is_time s.clock)

-- ---- their values

-- how far the local time is ahead of UTC, in milliseconds
abbrev pub zone_offset : Zone → ℤ
zone_offset Utc = pos 0
zone_offset (Offset west hours minutes) = signed_number west ((hours * 60 + minutes) * 60000)

-- milliseconds since midnight in UTC, of a time that is given locally
abbrev pub clock_value : Option Clock → ℤ
clock_value None = pos 0
clock_value (Some c) = pos (((c.hour * 60 + c.minute) * 60 + c.second) * 1000 + unwrap_or c.millisecond 0) -ℤ zone_offset c.zone

-- The day number of this date of the calendar, from 1970-01-01.
pub record IsDayNumber (d : Day) (number : ℤ) : Type 0 where
  pub date : Date
  pub same_day : IsYmd (pos d.year) (pos d.month) (pos d.day) date
  pub number_is : number ≡ epoch_day date

-- The value is the day number times the milliseconds of a day, and the time.
pub record IsStampValue (s : Stamp) (value : ℤ) : Type 0 where
  pub day : ℤ
  pub is_day : IsDayNumber s.day day
  pub number : value ≡ day *ℤ pos 86400000 +ℤ clock_value s.clock

-- The text is a datetime, and this is its number of milliseconds since 1970-01-01T00:00:00Z, in 64 bits. `2022-10-10` has the value
-- 1665360000000.
pub record IsDatetimeText (text : List ℕ) (value : ℤ) : Type 0 where
  pub stamp : Stamp
  pub written : HasStamp text stamp
  pub allowed : is_barred stamp.clock ≡ false
  pub real : IsReal stamp
  pub is_value : IsStampValue stamp value
  pub fits : IsLong value
