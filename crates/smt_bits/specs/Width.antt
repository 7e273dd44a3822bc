-- What contracts see of a width.
use Rattle.std.specs.Prelude.{ℕ}
use Rattle.smt_bits.specs.declared.width.Width.{Width}

-- the number of bits, from 1 to 128
abbrev pub bits_in : Width → ℕ
bits_in w = w.bits
