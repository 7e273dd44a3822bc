-- The texts of durations.
use Rattle.std.specs.Prelude.{◌≡◌, ℕ, ◌+◌, ◌*◌, ◌<◌, Bool, IsTrue, ℤ, Option, Some, None, codes, length, List, [], ◌++◌}
use Rattle.law_texts.specs.Digits.{is_numeral, decimal_number, minus_if, signed_number}
use Rattle.law_numbers.specs.Longs.{IsLong}

-- The digits of each part, as far as it is there.
pub record Parts : Type 0 where
  pub days : Option (List ℕ)
  pub hours : Option (List ℕ)
  pub minutes : Option (List ℕ)
  pub seconds : Option (List ℕ)
  pub milliseconds : Option (List ℕ)

-- the text of a part: its digits and its unit, or nothing where it is not there
abbrev pub part_text : List ℕ → Option (List ℕ) → List ℕ
part_text unit None = []
part_text unit (Some digits) = digits ++ unit

-- the number of a part, which is 0 where it is not there
abbrev pub part_number : Option (List ℕ) → ℕ
part_number None = 0
part_number (Some digits) = decimal_number digits

-- a part that is there is made of digits, at least one
abbrev pub IsPart : Option (List ℕ) → Type 0
IsPart None = Unit {0}
IsPart (Some digits) = IsTrue (is_numeral digits)

-- the text of the parts: days, hours, minutes, seconds, milliseconds
abbrev pub parts_text : Parts → List ℕ
parts_text p =
    part_text (codes "d") p.days ++ (part_text (codes "h") p.hours ++ (part_text (codes "m") p.minutes
    ++ (part_text (codes "s") p.seconds ++ part_text (codes "ms") p.milliseconds)))

-- each part that is there is made of digits, at least one
abbrev pub ArePartsOfDuration : Parts → Type 0
ArePartsOfDuration p = IsPart p.days × IsPart p.hours × IsPart p.minutes × IsPart p.seconds × IsPart p.milliseconds

-- the sum of the parts, in milliseconds
abbrev pub parts_number : Parts → ℕ
parts_number p =
    part_number p.days * 86400000 + part_number p.hours * 3600000 + part_number p.minutes * 60000
    + part_number p.seconds * 1000 + part_number p.milliseconds

-- The text is an optional minus and at least one part, and the value is their signed sum in milliseconds, in 64 bits. `-0h2s1ms` has
-- the value -2001.
pub record IsDurationText (text : List ℕ) (value : ℤ) : Type 0 where
  pub negative : Bool
  pub parts : Parts
  pub spelled : text ≡ minus_if negative ++ parts_text parts
  pub numerals : ArePartsOfDuration parts
  pub some_part : 0 < length (parts_text parts)
  pub number : value ≡ signed_number negative (parts_number parts)
  pub fits : IsLong value
