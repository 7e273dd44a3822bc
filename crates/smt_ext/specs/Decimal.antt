-- The texts of decimals.
use Rattle.std.specs.Prelude.{◌≡◌, ℕ, ◌+◌, ◌-◌, ◌*◌, ◌^◌, ◌≤◌, Bool, IsTrue, ℤ, codes, length, List, ◌++◌}
use Rattle.std.specs.Rc.{rc_str_bytes}
use Rattle.smt_ext.specs.declared.decimal.DecimalError.{DecimalError}
use Rattle.smt_ext.specs.declared.decimal.DecimalError.TheVariants.{ParseError, Memory}
use Rattle.law_texts.specs.Digits.{is_numeral, decimal_number, minus_if, signed_number}
use Rattle.law_numbers.specs.Longs.{IsLong}

-- The text is an optional minus, digits, a point, and one to four digits.
pub record HasDecimalParts (text : List ℕ) (negative : Bool) (whole fraction : List ℕ) : Type 0 where
  pub spelled : text ≡ minus_if negative ++ (whole ++ (codes "." ++ fraction))
  pub whole_digits : IsTrue (is_numeral whole)
  pub fraction_digits : IsTrue (is_numeral fraction)
  pub places : length fraction ≤ 4

-- the digits before and behind the point as a number of ten-thousandths
abbrev pub ten_thousandths : List ℕ → List ℕ → ℕ
ten_thousandths whole fraction = decimal_number whole * 10000 + decimal_number fraction * 10 ^ (4 - length fraction)

-- The text is a decimal, and the value is its number times 10000, in 64 bits. `-12.034` has the value -120340.
pub record IsDecimalText (text : List ℕ) (value : ℤ) : Type 0 where
  pub negative : Bool
  pub whole : List ℕ
  pub fraction : List ℕ
  pub parts : HasDecimalParts text negative whole fraction
  pub number : value ≡ signed_number negative (ten_thousandths whole fraction)
  pub fits : IsLong value

-- the text is that of no decimal
abbrev pub IsNoDecimal : List ℕ → Type 0
IsNoDecimal text = (value : ℤ) → IsDecimalText text value → ⊥

-- The error holds the text, or there was no memory to hold it.
abbrev pub HoldsDecimalText : List ℕ → DecimalError → Type 0
HoldsDecimalText text (ParseError given) = rc_str_bytes given ≡ text
HoldsDecimalText text Memory = Unit {0}

-- The error holds the text, which is no decimal; or there was no memory to hold it.
abbrev pub IsDecimalRefusal : List ℕ → DecimalError → Type 0
IsDecimalRefusal text (ParseError given) = (rc_str_bytes given ≡ text) × IsNoDecimal text
IsDecimalRefusal text Memory = IsNoDecimal text
