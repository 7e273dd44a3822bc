-- Which refusal a text gets that is no duration. The parts are looked at from the right end.
use Rattle.std.specs.Prelude.{◌≡◌, ℕ, ◌+◌, ◌*◌, ◌<◌, Bool, false, nat_lt, IsTrue, ◌⊎◌, codes, length, reverse, List, [], ◌∷◌, ◌++◌}
use Rattle.std.specs.List.{list_all}
use Rattle.std.specs.Rc.{rc_str_bytes}
use Rattle.smt_ext.specs.declared.datetime.error.DatetimeError.{DatetimeError}
use Rattle.smt_ext.specs.declared.datetime.error.DatetimeError.TheVariants.{DatetimeParseError, ChronoParseError}
use Rattle.smt_ext.specs.declared.datetime.error.DatetimeError.TheVariants.{IntegerOverflowDuringParsing, ParseIntError, InvalidUnit}
use Rattle.smt_ext.specs.declared.datetime.error.DatetimeError.TheVariants.{Memory}
use Rattle.smt_ext.specs.declared.datetime.span.Fault.{Fault}
use Rattle.smt_ext.specs.declared.datetime.span.Fault.TheVariants.{Form, NoDigits, OutOfRange}
use Rattle.smt_ext.specs.declared.datetime.span.TimeUnit.{TimeUnit}
use Rattle.smt_ext.specs.declared.datetime.span.TimeUnit.TheVariants.{Millisecond, Second, Minute, Hour, FullDay}
use Rattle.law_texts.specs.Characters.{is_digit}
use Rattle.law_texts.specs.Digits.{decimal_number, signed_number}
use Rattle.law_numbers.specs.Longs.{IsLong}
use Rattle.law_texts.specs.Front.{begins_without, IsSigned}

-- how a unit is written
abbrev pub unit_name : TimeUnit → List ℕ
unit_name Millisecond = codes "ms"
unit_name Second = codes "s"
unit_name Minute = codes "m"
unit_name Hour = codes "h"
unit_name FullDay = codes "d"

-- how many milliseconds a unit has
abbrev pub unit_milliseconds : TimeUnit → ℕ
unit_milliseconds Millisecond = 1
unit_milliseconds Second = 1000
unit_milliseconds Minute = 60000
unit_milliseconds Hour = 3600000
unit_milliseconds FullDay = 86400000

-- the units in the order in which they are looked at, from the right end of a text
abbrev pub all_units : List TimeUnit
all_units = Millisecond ∷ Second ∷ Minute ∷ Hour ∷ FullDay ∷ []

-- The rest ends with the unit, behind these digits, all that stand before it.
pub record EndsInPart (unit : TimeUnit) (rest front digits : List ℕ) : Type 0 where
  pub whole : rest ≡ front ++ (digits ++ unit_name unit)
  pub each : IsTrue (list_all is_digit digits)
  pub longest : IsTrue (begins_without is_digit (reverse front))

-- The rest does not end with the unit.
abbrev pub HasNoPart : TimeUnit → List ℕ → Type 0
HasNoPart unit rest = (front : List ℕ) → rest ≡ front ++ unit_name unit → ⊥

-- a byte above 127 stands first
abbrev pub begins_past_ascii : List ℕ → Bool
begins_past_ascii [] = false
begins_past_ascii (b ∷ bs) = nat_lt 127 b

-- a character above 127 stands last: no byte of such a character is below 128
abbrev pub ends_past_ascii : List ℕ → Bool
ends_past_ascii front = begins_past_ascii (reverse front)

-- The digits before a unit give a signed number of milliseconds in 64 bits.
pub record IsSoundPart (negative : Bool) (unit : TimeUnit) (front digits : List ℕ) : Type 0 where
  pub ascii : ends_past_ascii front ≡ false
  pub some_digit : 0 < length digits
  pub fits : IsLong (signed_number negative (decimal_number digits * unit_milliseconds unit))

-- what is wrong with one part: the first of these
abbrev pub IsPartFault : Bool → TimeUnit → List ℕ → List ℕ → Fault → Type 0
IsPartFault negative unit front digits Form = IsTrue (ends_past_ascii front)
IsPartFault negative unit front digits NoDigits = (ends_past_ascii front ≡ false) × (digits ≡ [])
IsPartFault negative unit front digits OutOfRange = (ends_past_ascii front ≡ false) × (0 < length digits)
    × (IsLong (signed_number negative (decimal_number digits * unit_milliseconds unit)) → ⊥)

-- the first fault of the parts with these units, then that something is left over
unfoldable pub IsFirstFault : Bool → List TimeUnit → List ℕ → Fault → Type 0
IsFirstFault negative [] rest fault = (0 < length rest) × (fault ≡ Form)
IsFirstFault negative (unit ∷ units) rest fault =
    (HasNoPart unit rest × IsFirstFault negative units rest fault)
    ⊎ ((front : List ℕ) × (digits : List ℕ) × EndsInPart unit rest front digits
    × (IsPartFault negative unit front digits fault
    ⊎ (IsSoundPart negative unit front digits × IsFirstFault negative units front fault)))

-- no part has a fault and nothing is left over, and this is the sum
unfoldable pub HasSum : Bool → List TimeUnit → List ℕ → ℕ → Type 0
HasSum negative [] rest n = (rest ≡ []) × (n ≡ 0)
HasSum negative (unit ∷ units) rest n =
    (HasNoPart unit rest × HasSum negative units rest n)
    ⊎ ((front : List ℕ) × (digits : List ℕ) × (more : ℕ) × EndsInPart unit rest front digits
    × IsSoundPart negative unit front digits × HasSum negative units front more
    × (n ≡ more + decimal_number digits * unit_milliseconds unit))

-- What is wrong with a text behind its sign: it is empty, or a part has a fault, or the sum leaves 64 bits.
abbrev pub IsFaultBehindSign : Bool → List ℕ → Fault → Type 0
IsFaultBehindSign negative rest fault =
    ((rest ≡ []) × (fault ≡ Form))
    ⊎ ((0 < length rest) × IsFirstFault negative all_units rest fault)
    ⊎ ((n : ℕ) × (0 < length rest) × HasSum negative all_units rest n × (IsLong (signed_number negative n) → ⊥) × (fault ≡ OutOfRange))

-- The text has this fault behind its sign, the first one from the right end. `1s1d` has the fault `Form`, since `1s` is left over in
-- front of the days, and `d` has `NoDigits`.
pub record HasFault (text : List ℕ) (fault : Fault) : Type 0 where
  pub negative : Bool
  pub rest : List ℕ
  pub sign : IsSigned text negative rest
  pub fault_is : IsFaultBehindSign negative rest fault

-- An error that holds a text holds this one; or there was no memory to hold it.
abbrev pub IsDurationRefusal : List ℕ → DatetimeError → Type 0
IsDurationRefusal text (DatetimeParseError given) = (rc_str_bytes given ≡ text) × HasFault text Form
IsDurationRefusal text ChronoParseError = ⊥
IsDurationRefusal text IntegerOverflowDuringParsing = HasFault text OutOfRange
IsDurationRefusal text ParseIntError = HasFault text NoDigits
IsDurationRefusal text (InvalidUnit unit) = ⊥
IsDurationRefusal text Memory = HasFault text Form
