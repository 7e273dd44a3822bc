-- A text is read to a value exactly where it is a datetime with that value.
use Rattle.std.proofs.Common.{◌≡◌, ℕ, ◌≤◌, ◌<◌, true, not, ◌&&◌, Some, List, refl, ap, ◌∙◌, arith, ℤ, pos}
use Rattle.std.specs.Prelude.{nat_le, ◌+ℤ◌, ◌*ℤ◌, ◌≤ℤ◌}
use Rattle.std.proofs.lemmas.Bool.{and_parts, and_from, leb-true, le-leb, not-true, not_from_false}
use Rattle.std.proofs.lemmas.Int.{ints}
use Rattle.std.proofs.NetLemmas.Options.{and_then_some}
use Rattle.jiff_core.specs.Calendar.{IsYear, days_from_civil, days_in_month}
use Rattle.smt_ext.specs.DatetimeReading.{stamp_at}
use Rattle.smt_ext.specs.DatetimeText.{DayFits, IsDatetimeText, IsDayNumber, IsRealDay, clock_value, is_barred, is_time}
use Rattle.smt_ext.specs.declared.datetime.stamp.Day.{Day}
use Rattle.smt_ext.proofs.Stamps.{stamp_again, stamp_takes}
use Rattle.law_extensions.specs.DatetimeTexts.{datetime_in, datetime_of, is_real_day, stamp_value}
use Rattle.law_extensions.specs.Readings.{DatetimesAreRead}
use Rattle.law_extensions.proofs.Signs.{long_there, long_put}

-- ---- days

-- what the test says of a day
record IsDayThere (d : Day) : Type 0 where
  month_from : 1 ≤ d.month
  month_to : d.month ≤ 12
  day_from : 1 ≤ d.day
  day_to : d.day ≤ days_in_month (pos d.year) d.month

day_there : (d : Day) → is_real_day d ≡ true → IsDayThere d
day_there d h =
    let a = and_parts (nat_le 1 d.month) _ h in
    let b = and_parts (nat_le d.month 12) _ a.1 in
    let c = and_parts (nat_le 1 d.day) (nat_le d.day (days_in_month (pos d.year) d.month)) b.1 in
    record {
      month_from = leb-true 1 d.month a.0;
      month_to = leb-true d.month 12 b.0;
      day_from = leb-true 1 d.day c.0;
      day_to = leb-true d.day (days_in_month (pos d.year) d.month) c.1;
    }

as_signed : (a b : ℕ) → a ≤ b → pos a ≤ℤ pos b
as_signed a b h = omega (arith, ints)

as_unsigned : (a b : ℕ) → pos a ≤ℤ pos b → a ≤ b
as_unsigned a b h = omega (arith, ints)

year_fits : (year : ℕ) → year < 10000 → IsYear (pos year)
year_fits year h = (omega (arith, ints), omega (arith, ints))

real_from_test : (d : Day) → DayFits d → is_real_day d ≡ true → IsRealDay d
real_from_test d f h =
    let t = day_there d h in
    let days = days_in_month (pos d.year) d.month in
    (year_fits d.year f.0, (as_signed 1 d.month t.month_from, as_signed d.month 12 t.month_to), (as_signed 1 d.day t.day_from, as_signed d.day days t.day_to))

number_from_test : (d : Day) → DayFits d → is_real_day d ≡ true → IsDayNumber d (days_from_civil (pos d.year) d.month d.day)
number_from_test d f h =
    let t = day_there d h in
    record {
      date = record { year = pos d.year; month = d.month; day = d.day; year_in = year_fits d.year f.0; month_in = (t.month_from, t.month_to); day_in = (t.day_from, t.day_to) };
      same_day = (refl, refl, refl);
      number_is = refl;
    }

real_passes : (d : Day) → IsRealDay d → is_real_day d ≡ true
real_passes d (year, month, day) =
    let days = days_in_month (pos d.year) d.month in
    and_from _ _ (le-leb 1 d.month (as_unsigned 1 d.month month.0)) (and_from _ _ (le-leb d.month 12 (as_unsigned d.month 12 month.1)) (
    and_from _ _ (le-leb 1 d.day (as_unsigned 1 d.day day.0)) (le-leb d.day days (as_unsigned d.day days day.1))))

one_number : (d : Day) (n : ℤ) → IsDayNumber d n → n ≡ days_from_civil (pos d.year) d.month d.day
one_number d n h =
    let year : h.date.year ≡ pos d.year = h.same_day.0 in
    let e = h.same_day.1 in
    let f = h.same_day.2 in
    let month : h.date.month ≡ d.month = cc in
    let day : h.date.day ≡ d.day = cc in
    h.number_is ∙ (λ i. days_from_civil (year i) (month i) (day i))

-- ---- the law

read_is_datetime : (text : List ℕ) (v : ℤ) → datetime_in text ≡ Some v → IsDatetimeText text v
read_is_datetime text v e =
    and_then_some datetime_of (stamp_at text) v e (λ s h g.
    let w = stamp_takes text s h in
    let t = long_there _ (stamp_value s) v g in
    let a = and_parts (not (is_barred s.clock)) (is_real_day s.day && is_time s.clock) t.0 in
    let b = and_parts (is_real_day s.day) (is_time s.clock) a.1 in
    record {
      stamp = s;
      written = w;
      allowed = not-true (is_barred s.clock) a.0;
      real = (real_from_test s.day w.day b.0, b.1);
      is_value = record { day = days_from_civil (pos s.day.year) s.day.month s.day.day; is_day = number_from_test s.day w.day b.0; number = t.1 };
      fits = t.2;
    })

datetime_is_read : (text : List ℕ) (v : ℤ) → IsDatetimeText text v → datetime_in text ≡ Some v
datetime_is_read text v d =
    let s = d.stamp in
    let condition = and_from (not (is_barred s.clock)) (is_real_day s.day && is_time s.clock) (not_from_false (is_barred s.clock) d.allowed) (and_from (is_real_day s.day) (is_time s.clock) (real_passes s.day d.real.0) d.real.1) in
    let day = one_number s.day d.is_value.day d.is_value.is_day in
    let number : v ≡ stamp_value s = d.is_value.number ∙ ap (λ (n : ℤ). n *ℤ pos 86400000 +ℤ clock_value s.clock) day in
    let value : datetime_of s ≡ Some v = long_put _ (stamp_value s) v condition number d.fits in
    rw (stamp_again text s d.written) value

pub datetimes_are_read : DatetimesAreRead
datetimes_are_read text v = (read_is_datetime text v, datetime_is_read text v)
