-- What the functions that read texts are to the texts of values.
use Rattle.std.specs.Prelude.{◌≡◌, ◌↔◌, ℕ, ℤ, List, Some}
use Rattle.smt_ext.specs.DatetimeText.{IsDatetimeText}
use Rattle.smt_ext.specs.Decimal.{IsDecimalText}
use Rattle.smt_ext.specs.DurationText.{IsDurationText}
use Rattle.smt_ext.specs.IpRanges.{Range}
use Rattle.smt_ext.specs.IpText.{WritesRange}
use Rattle.law_extensions.specs.DatetimeTexts.{datetime_in}
use Rattle.law_extensions.specs.DecimalTexts.{decimal_in}
use Rattle.law_extensions.specs.DurationTexts.{duration_in}
use Rattle.law_extensions.specs.RangeTexts.{range_in}

-- A text is read to a value exactly where it is a decimal with that value.
abbrev pub DecimalsAreRead : Type 0
DecimalsAreRead = (text : List ℕ) (value : ℤ) → (decimal_in text ≡ Some value) ↔ IsDecimalText text value

-- A text is read to a value exactly where it is a duration with that value.
abbrev pub DurationsAreRead : Type 0
DurationsAreRead = (text : List ℕ) (value : ℤ) → (duration_in text ≡ Some value) ↔ IsDurationText text value

-- A text is read to a range exactly where it writes that range.
abbrev pub RangesAreRead : Type 0
RangesAreRead = (text : List ℕ) (range : Range) → (range_in text ≡ Some range) ↔ WritesRange text range

-- A text is read to a value exactly where it is a datetime with that value.
abbrev pub DatetimesAreRead : Type 0
DatetimesAreRead = (text : List ℕ) (value : ℤ) → (datetime_in text ≡ Some value) ↔ IsDatetimeText text value
