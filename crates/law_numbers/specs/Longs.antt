-- Whole numbers of 64 bits with sign.
use Rattle.std.specs.Prelude.{ℤ, FitsSigned}
use Rattle.std.specs.Int.{w64}

-- from -2 to the 63 up to 2 to the 63, less one
abbrev pub IsLong : ℤ → Type 0
IsLong z = FitsSigned w64 z
