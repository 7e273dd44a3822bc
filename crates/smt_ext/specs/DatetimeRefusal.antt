-- Which refusal a text gets that is no datetime.
use Rattle.std.specs.Prelude.{◌≡◌, ℕ, false, List}
use Rattle.std.specs.Rc.{rc_str_bytes}
use Rattle.smt_ext.specs.declared.datetime.error.DatetimeError.{DatetimeError}
use Rattle.smt_ext.specs.declared.datetime.error.DatetimeError.TheVariants.{DatetimeParseError, ChronoParseError}
use Rattle.smt_ext.specs.declared.datetime.error.DatetimeError.TheVariants.{IntegerOverflowDuringParsing, ParseIntError, InvalidUnit}
use Rattle.smt_ext.specs.declared.datetime.error.DatetimeError.TheVariants.{Memory}
use Rattle.smt_ext.specs.declared.datetime.stamp.Stamp.{Stamp}
use Rattle.smt_ext.specs.DatetimeText.{HasStamp, is_barred, IsReal}

-- The error holds the text, or there was no memory to hold it.
abbrev pub HoldsText : List ℕ → DatetimeError → Type 0
HoldsText text (DatetimeParseError given) = rc_str_bytes given ≡ text
HoldsText text ChronoParseError = ⊥
HoldsText text IntegerOverflowDuringParsing = ⊥
HoldsText text ParseIntError = ⊥
HoldsText text (InvalidUnit unit) = ⊥
HoldsText text Memory = Unit {0}

-- The text has another shape, or the second 60, or a far offset.
abbrev pub IsMisshapen : List ℕ → Type 0
IsMisshapen text = (s : Stamp) → HasStamp text s → is_barred s.clock ≡ false → ⊥

-- The text has the shape, and neither, but there is no such date or time of day, as in `2023-02-29`.
pub record IsUnreal (text : List ℕ) : Type 0 where
  pub stamp : Stamp
  pub written : HasStamp text stamp
  pub allowed : is_barred stamp.clock ≡ false
  pub unreal : IsReal stamp → ⊥

-- The shape is looked at first. An error that holds a text holds this one; or there was no memory to hold it.
abbrev pub IsDatetimeRefusal : List ℕ → DatetimeError → Type 0
IsDatetimeRefusal text (DatetimeParseError given) = (rc_str_bytes given ≡ text) × IsMisshapen text
IsDatetimeRefusal text ChronoParseError = IsUnreal text
IsDatetimeRefusal text IntegerOverflowDuringParsing = ⊥
IsDatetimeRefusal text ParseIntError = ⊥
IsDatetimeRefusal text (InvalidUnit unit) = ⊥
IsDatetimeRefusal text Memory = IsMisshapen text
