-- Decimals, read from their texts.
use Rattle.std.specs.Prelude.{ℕ, Bool, ◌&&◌, nat_le, bytes_eq, codes, ℤ, Option, List, ◌++◌, drop, length}
use Rattle.std.specs.List.{take_while}
use Rattle.law_texts.specs.Characters.{is_digit}
use Rattle.law_texts.specs.Digits.{is_numeral, minus_if, signed_number}
use Rattle.smt_ext.specs.Decimal.{ten_thousandths}
use Rattle.law_extensions.specs.Signs.{has_minus, without_minus, long_where}

-- the digits behind the sign
abbrev pub whole_digits : List ℕ → List ℕ
whole_digits text = take_while is_digit (without_minus text)

-- what stands behind these digits, but for the point
abbrev pub fraction_digits : List ℕ → List ℕ
fraction_digits text = drop 1 (drop (length (whole_digits text)) (without_minus text))

-- the number of ten-thousandths, where the text is this sign, a numeral, a point, and a numeral of four digits at most
abbrev pub decimal_of : List ℕ → Bool → List ℕ → List ℕ → Option ℤ
decimal_of text negative whole fraction =
    long_where
    (bytes_eq text (minus_if negative ++ (whole ++ (codes "." ++ fraction)))
    && (is_numeral whole && (is_numeral fraction && nat_le (length fraction) 4)))
    (signed_number negative (ten_thousandths whole fraction))

-- the value of a decimal's text in ten-thousandths, or none where the text is no decimal
abbrev pub decimal_in : List ℕ → Option ℤ
decimal_in text = decimal_of text (has_minus text) (whole_digits text) (fraction_digits text)
