-- Durations, read from their texts.
use Rattle.std.specs.Prelude.{ℕ, Bool, not, ◌&&◌, nat_lt, if◌then◌else◌, bytes_eq, codes, ℤ, Option, Some, None, List, ◌++◌, drop, length}
use Rattle.std.specs.List.{take_while}
use Rattle.law_texts.specs.Characters.{is_digit}
use Rattle.law_texts.specs.Digits.{is_numeral, minus_if, signed_number}
use Rattle.smt_ext.specs.DurationText.{Parts, part_text, parts_text, parts_number}
use Rattle.law_extensions.specs.Signs.{has_minus, without_minus, long_where}

-- the digits that a text begins with
abbrev pub digits_at : List ℕ → List ℕ
digits_at text = take_while is_digit text

-- what stands behind these digits, up to the next digit
abbrev pub unit_at : List ℕ → List ℕ
unit_at text = take_while (λ b. not (is_digit b)) (drop (length (digits_at text)) text)

-- the digits that a text begins with, where exactly this unit stands behind them
abbrev pub part_at : List ℕ → List ℕ → Option (List ℕ)
part_at unit text = if is_numeral (digits_at text) && bytes_eq (unit_at text) unit then Some (digits_at text) else None

-- what stands behind the digits and the unit, or the whole text where they do not stand there
abbrev pub behind_part : List ℕ → List ℕ → List ℕ
behind_part unit text = drop (length (part_text unit (part_at unit text))) text

-- one part behind the other, where they are there: days, hours, minutes, seconds, milliseconds
abbrev pub parts_at : List ℕ → Parts
parts_at text =
    let hours = behind_part (codes "d") text in
    let minutes = behind_part (codes "h") hours in
    let seconds = behind_part (codes "m") minutes in
    let milliseconds = behind_part (codes "s") seconds in
    record {
      days = part_at (codes "d") text;
      hours = part_at (codes "h") hours;
      minutes = part_at (codes "m") minutes;
      seconds = part_at (codes "s") seconds;
      milliseconds = part_at (codes "ms") milliseconds;
    }

-- the number of milliseconds, where the text is this sign and these parts, of which one at least is there
abbrev pub duration_of : List ℕ → Bool → Parts → Option ℤ
duration_of text negative parts =
    long_where
    (bytes_eq text (minus_if negative ++ parts_text parts) && nat_lt 0 (length (parts_text parts)))
    (signed_number negative (parts_number parts))

-- the value of a duration's text in milliseconds, or none where the text is no duration
abbrev pub duration_in : List ℕ → Option ℤ
duration_in text = duration_of text (has_minus text) (parts_at (without_minus text))
