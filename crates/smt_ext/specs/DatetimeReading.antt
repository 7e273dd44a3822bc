-- What the readers of a datetime's parts answer: the part at the front of a text, and what follows it.
use Rattle.std.specs.Prelude.{ℕ, Bool, true, false, ◌&&◌, ◌==◌, if◌then◌else◌, Option, Some, None, length, take, drop, List, [], ◌∷◌}
use Rattle.std.specs.List.{list_all}
use Rattle.smt_ext.specs.declared.datetime.stamp.Day.{Day}
use Rattle.smt_ext.specs.declared.datetime.stamp.Clock.{Clock}
use Rattle.smt_ext.specs.declared.datetime.stamp.Stamp.{Stamp}
use Rattle.smt_ext.specs.declared.datetime.stamp.Zone.{Zone}
use Rattle.smt_ext.specs.declared.datetime.stamp.Zone.TheVariants.{Utc, Offset}
use Rattle.law_texts.specs.Characters.{is_digit}
use Rattle.law_texts.specs.Digits.{decimal_number}
use Rattle.law_texts.specs.Front.{byte_at}
use Rattle.law_texts.specs.Options.{◌>>=◌}

-- nothing is left
abbrev pub is_empty : List ℕ → Bool
is_empty text = length text == 0

-- so many digits at the front: their number, and what follows
unfoldable pub field_at : ℕ → List ℕ → Option (ℕ × List ℕ)
field_at k text =
    if (length (take k text) == k) && list_all is_digit (take k text)
    then Some (decimal_number (take k text), drop k text)
    else None

-- `YYYY-MM-DD` at the front, and what follows
unfoldable pub day_at : List ℕ → Option (Day × List ℕ)
day_at text = do
  year ← field_at 4 text
  first ← byte_at 45 year.1
  month ← field_at 2 first
  second ← byte_at 45 month.1
  day ← field_at 2 second
  Some (record { year = year.0; month = month.0; day = day.0 }, day.1)

-- hours and minutes, and nothing behind them
unfoldable pub offset_at : Bool → List ℕ → Option Zone
offset_at west text = do
  hours ← field_at 2 text
  minutes ← field_at 2 hours.1
  if is_empty minutes.1 then Some (Offset west hours.0 minutes.0) else None

-- `Z`, or an offset `hhmm` behind its sign, and nothing behind it
unfoldable pub zone_at : List ℕ → Option Zone
zone_at [] = None
zone_at (b ∷ rest) =
    if b == 90 then (if is_empty rest then Some Utc else None)
    else (if b == 43 then offset_at false rest else (if b == 45 then offset_at true rest else None))

-- what stands behind a point, or no fraction and the whole text
abbrev pub fraction_behind : List ℕ → Option (List ℕ) → Option (Option ℕ × List ℕ)
fraction_behind text None = Some (None, text)
fraction_behind text (Some rest) = field_at 3 rest >>= (λ milliseconds. Some (Some milliseconds.0, milliseconds.1))

-- `.SSS` at the front, where there is a point, and what follows
unfoldable pub fraction_at : List ℕ → Option (Option ℕ × List ℕ)
fraction_at text = fraction_behind text (byte_at 46 text)

-- `Thh:mm:ss`, perhaps a fraction, and the zone, and nothing behind it
unfoldable pub clock_at : List ℕ → Option Clock
clock_at text = do
  time ← byte_at 84 text
  hour ← field_at 2 time
  first ← byte_at 58 hour.1
  minute ← field_at 2 first
  second ← byte_at 58 minute.1
  seconds ← field_at 2 second
  fraction ← fraction_at seconds.1
  zone ← zone_at fraction.1
  Some (record { hour = hour.0; minute = minute.0; second = seconds.0; millisecond = fraction.0; zone = zone })

-- the numbers of a datetime's text, where it has the shape: a date alone, or with a time and a zone
unfoldable pub stamp_at : List ℕ → Option Stamp
stamp_at text = do
  day ← day_at text
  if is_empty day.1 then Some (record { day = day.0; clock = None })
      else clock_at day.1 >>= (λ clock. Some (record { day = day.0; clock = Some clock }))
