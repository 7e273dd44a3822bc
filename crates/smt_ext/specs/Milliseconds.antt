-- Datetimes and durations as numbers of milliseconds.
use Rattle.std.specs.Prelude.{◌≡◌, ℤ, pos, ◌+ℤ◌, ◌-ℤ◌, ◌*ℤ◌, ◌≤ℤ◌, ◌<ℤ◌}
use Rattle.std.specs.Int.{int_rem_euclid}
use Rattle.std.specs.Int.RustNames.{int_div}
use Rattle.smt_ext.specs.declared.datetime.Datetime.{Datetime}
use Rattle.smt_ext.specs.declared.datetime.Duration.{Duration}

-- the number of a datetime: milliseconds since 1970-01-01T00:00:00Z
abbrev pub datetime_value : Datetime → ℤ
datetime_value d = d.milliseconds

-- the number of a duration: milliseconds
abbrev pub duration_value : Duration → ℤ
duration_value d = d.milliseconds

-- the milliseconds since the last midnight, from 0 to 86399999
abbrev pub time_of_day : ℤ → ℤ
time_of_day v = int_rem_euclid v (pos 86400000)

-- the last midnight: the greatest multiple of 86400000 that is not above
abbrev pub day_start : ℤ → ℤ
day_start v = v -ℤ time_of_day v

-- The start is a multiple of 86400000, not above, and the next multiple is above.
pub record IsLastMidnight (value start : ℤ) : Type 0 where
  pub days : ℤ
  pub multiple : start ≡ days *ℤ pos 86400000
  pub not_above : start ≤ℤ value
  pub next_above : value <ℤ (start +ℤ pos 86400000)

-- whole seconds of milliseconds, rounded towards zero
abbrev pub whole_seconds : ℤ → ℤ
whole_seconds v = int_div v (pos 1000)

-- whole minutes of milliseconds, rounded towards zero
abbrev pub whole_minutes : ℤ → ℤ
whole_minutes v = int_div (whole_seconds v) (pos 60)

-- whole hours of milliseconds, rounded towards zero
abbrev pub whole_hours : ℤ → ℤ
whole_hours v = int_div (whole_minutes v) (pos 60)

-- whole days of milliseconds, rounded towards zero
abbrev pub whole_days : ℤ → ℤ
whole_days v = int_div (whole_hours v) (pos 24)
