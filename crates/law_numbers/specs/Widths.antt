-- Widths of bitvectors, and the numbers that they hold, as tests.
use Rattle.std.specs.Prelude.{ℕ, ◌^◌, Bool, ◌&&◌, nat_lt, nat_le}

-- a width from 1 to 128
abbrev pub is_width : ℕ → Bool
is_width width = nat_le 1 width && nat_le width 128

-- a bitvector of a width: a number below 2 to the width
abbrev pub are_bits : ℕ → ℕ → Bool
are_bits width number = is_width width && nat_lt number (2 ^ width)
