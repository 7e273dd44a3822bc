-- What the operators on bitvectors mean in two's complement, as whole numbers with a sign.
use Rattle.std.specs.Prelude.{◌≡◌, ℕ, ◌^◌, ◌<◌, ◌≤◌, false, ℤ, pos, negsuc, ◌+ℤ◌, ◌*ℤ◌, ◌<ℤ◌, ◌≤ℤ◌, int_div, int_rem}
use Rattle.law_numbers.specs.BitVectors.{signed, bits_of, overflows, bvsdiv, bvsrem, bvsmod}

-- a bitvector has the bits of its two's complement value
abbrev pub SignedHasItsBits : Type 0
SignedHasItsBits = (n a : ℕ) → a < 2 ^ n → bits_of n (signed n a) ≡ a

-- a whole number taken to n bits and read in two's complement lies in the signed range, and is off by a multiple of 2 ^ n
pub record IsTakenIntoRange (n : ℕ) (z taken : ℤ) : Type 0 where
  pub in_range : overflows n taken ≡ false
  pub off : (k : ℤ) × (z ≡ taken +ℤ k *ℤ pos (2 ^ n))

-- the bits of every whole number, read in two's complement, are that number taken into the signed range
abbrev pub BitsAreTakenIntoRange : Type 0
BitsAreTakenIntoRange = (n : ℕ) (z : ℤ) → 1 ≤ n → IsTakenIntoRange n z (signed n (bits_of n z))

-- the signed quotient and remainder are those of whole numbers rounded toward 0, taken to n bits
pub record RoundsTowardZero (n a b : ℕ) : Type 0 where
  pub quotient : bvsdiv n a b ≡ bits_of n (int_div (signed n a) (signed n b))
  pub remainder : bvsrem n a b ≡ bits_of n (int_rem (signed n a) (signed n b))

-- bvsdiv and bvsrem round toward 0, for all bitvectors and every divisor but 0
abbrev pub DivisionRoundsTowardZero : Type 0
DivisionRoundsTowardZero = (n a b : ℕ) → a < 2 ^ n → b < 2 ^ n → 0 < b → RoundsTowardZero n a b

-- 0, or a number of the divisor's sign that is nearer to 0
abbrev pub IsBelowDivisor : ℤ → ℤ → Type 0
IsBelowDivisor (pos m) r = (pos 0 ≤ℤ r) × (r <ℤ pos m)
IsBelowDivisor (negsuc m) r = (negsuc m <ℤ r) × (r ≤ℤ pos 0)

-- r is what is left of z after a whole number of divisors d, and has the divisor's sign
pub record IsModulus (z d r : ℤ) : Type 0 where
  pub left : (k : ℤ) × (z ≡ r +ℤ k *ℤ d)
  pub below : IsBelowDivisor d r

-- bvsmod gives a remainder with the divisor's sign, for all bitvectors and every divisor but 0
abbrev pub ModulusHasDivisorsSign : Type 0
ModulusHasDivisorsSign = (n a b : ℕ) → a < 2 ^ n → b < 2 ^ n → 0 < b → IsModulus (signed n a) (signed n b) (signed n (bvsmod n a b))
