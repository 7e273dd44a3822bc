-- The printed form of a decimal.
use Rattle.std.specs.Prelude.{ℕ, ◌/◌, ◌%◌, Bool, true, false, ℤ, pos, negsuc, unsigned_abs, codes, List, ◌++◌}
use Rattle.std.specs.Fmt.{decimal}
use Rattle.law_texts.specs.Digits.{padded, minus_if}

-- whether a minus stands first
abbrev pub is_below_zero : ℤ → Bool
is_below_zero (pos n) = false
is_below_zero (negsuc n) = true

-- "-12.0340": the quotient by 10000, a point, and the rest in four digits
abbrev pub decimal_text : ℤ → List ℕ
decimal_text v =
    minus_if (is_below_zero v)
    ++ (decimal (unsigned_abs v / 10000) ++ (codes "." ++ padded 4 (unsigned_abs v % 10000)))
