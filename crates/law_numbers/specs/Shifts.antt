-- How far the program's shifts of bitvectors go.
use Rattle.std.specs.Prelude.{ℕ}

-- the greatest number of places that `shl` and `lshr` take: of 32 bits; the shifts of the standard take any number
abbrev pub greatest_shift : ℕ
greatest_shift = 4294967295
