-- The bits of a prefix, where one is given.
use Rattle.std.specs.Prelude.{ℕ, Bool, true, ◌==◌, Option, Some, None}
use Rattle.smt_bits.specs.declared.bitvec.BitVec.{BitVec}
use Rattle.smt_bits.specs.BitVec.{width_of}
use Rattle.smt_ext.specs.declared.prefix.PrefixBits.{PrefixBits}
use Rattle.smt_ext.specs.declared.prefix.PrefixBits.TheVariants.{Given, Absent}

-- the bits, where they are given
abbrev pub given : PrefixBits → Option BitVec
given (Given bits) = Some bits
given Absent = None

-- given bits have this width
abbrev pub has_width : ℕ → PrefixBits → Bool
has_width width (Given bits) = width_of bits == width
has_width width Absent = true
