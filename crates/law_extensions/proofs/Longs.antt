-- Whole numbers of 64 bits and their bits.
use Rattle.std.proofs.Common.{◌≡◌, ℕ, ◌+◌, ◌-◌, ◌%◌, ◌^◌, ◌<◌, ◌≤◌, Bool, true, false, refl, ap, ◌∙◌, arith}
use Rattle.std.specs.Prelude.{ℤ, pos, negsuc, ◌+ℤ◌, ◌-ℤ◌, ◌||◌, nat_lt, nat_le}
use Rattle.std.proofs.Math.Nat.{mod-eq_of_lt}
use Rattle.std.proofs.lemmas.Int.{ints}
use Rattle.std.proofs.lemmas.Bool.{lt-leb, le-ltb, leb-false, ltb-false}
use Rattle.law_numbers.specs.BitVectors.{signed, bits_of, overflows, bvadd, bvsub}
use Rattle.law_numbers.specs.Longs.{IsLong}
use Rattle.law_numbers.proofs.Modulus.{signed_low, signed_high}

pub small_pos : (a : ℕ) → IsLong (pos a) → a < 2 ^ 63
small_pos a h = h.sfits

pub small_negsuc : (a : ℕ) → IsLong (negsuc a) → a < 2 ^ 63
small_negsuc a h = h.sfits

-- a number of 64 bits is the two's complement value of its bits
pub signed_bits : (z : ℤ) → IsLong z → signed 64 (bits_of 64 z) ≡ z
signed_bits (pos a) h =
    let k : a < 2 ^ 63 = small_pos a h in
    let e : a % 2 ^ 64 ≡ a = mod-eq_of_lt (omega arith) in
    ap (signed 64) e ∙ signed_low 64 a (omega arith)
signed_bits (negsuc a) h =
    let k : a < 2 ^ 63 = small_negsuc a h in
    let e : a % 2 ^ 64 ≡ a = mod-eq_of_lt (omega arith) in
    let same : 2 ^ 64 - 1 - (2 ^ 64 - 1 - a) ≡ a = omega arith in
    ap (λ x. signed 64 (2 ^ 64 - 1 - x)) e ∙ signed_high 64 (2 ^ 64 - 1 - a) (omega arith) ∙ ap negsuc same

-- which numbers leave the 64 bits
pub stays_long : (z : ℤ) → IsLong z → overflows 64 z ≡ false
stays_long (pos a) h = lt-leb (2 ^ 63) a (small_pos a h)
stays_long (negsuc a) h = let k : a < 2 ^ 63 = small_negsuc a h in ap (λ t. t || false) (le-ltb (2 ^ 63 - 1) a (omega arith))

pub leaves_long : (z : ℤ) → (IsLong z → ⊥) → overflows 64 z ≡ true
leaves_long (pos a) h = by (nat_le (2 ^ 63) a) refl
  where
    by : (t : Bool) → nat_le (2 ^ 63) a ≡ t → t ≡ true
    by true e = refl
    by false e = absurd (h (record { sfits = leb-false (2 ^ 63) a e }))
leaves_long (negsuc a) h = by (nat_lt (2 ^ 63 - 1) a) refl
  where
    by : (t : Bool) → nat_lt (2 ^ 63 - 1) a ≡ t → (t || false) ≡ true
    by true e = refl
    by false e = let k : a ≤ 2 ^ 63 - 1 = ltb-false (2 ^ 63 - 1) a e in absurd (h (record { sfits = omega arith }))

-- the bits of a sum and of a difference that stay, from those of the two numbers
sum_at : (z w v : ℤ) → z +ℤ w ≡ v → IsLong z → IsLong w → IsLong v → bvadd 64 (bits_of 64 z) (bits_of 64 w) ≡ bits_of 64 v
sum_at (pos a) (pos b) (pos c) e f g h = let s : a + b ≡ c = omega (arith, ints) in omega arith
sum_at (pos a) (pos b) (negsuc c) e f g h = absurd (omega (arith, ints))
sum_at (pos a) (negsuc b) (pos c) e f g h = let s : a ≡ c + b + 1 = omega (arith, ints) in omega arith
sum_at (pos a) (negsuc b) (negsuc c) e f g h = let s : a + c ≡ b = omega (arith, ints) in omega arith
sum_at (negsuc a) (pos b) (pos c) e f g h = let s : b ≡ c + a + 1 = omega (arith, ints) in omega arith
sum_at (negsuc a) (pos b) (negsuc c) e f g h = let s : b + c ≡ a = omega (arith, ints) in omega arith
sum_at (negsuc a) (negsuc b) (pos c) e f g h = absurd (omega (arith, ints))
sum_at (negsuc a) (negsuc b) (negsuc c) e f g h = let s : a + b + 1 ≡ c = omega (arith, ints) in omega arith

pub sum_bits : (z w : ℤ) → IsLong z → IsLong w → IsLong (z +ℤ w) → bvadd 64 (bits_of 64 z) (bits_of 64 w) ≡ bits_of 64 (z +ℤ w)
sum_bits z w = sum_at z w (z +ℤ w) refl

difference_at : (z w v : ℤ) → z -ℤ w ≡ v → IsLong z → IsLong w → IsLong v → bvsub 64 (bits_of 64 z) (bits_of 64 w) ≡ bits_of 64 v
difference_at (pos a) (pos b) (pos c) e f g h = let s : a ≡ b + c = omega (arith, ints) in omega arith
difference_at (pos a) (pos b) (negsuc c) e f g h = let s : a + c + 1 ≡ b = omega (arith, ints) in omega arith
difference_at (pos a) (negsuc b) (pos c) e f g h = let s : a + b + 1 ≡ c = omega (arith, ints) in omega arith
difference_at (pos a) (negsuc b) (negsuc c) e f g h = absurd (omega (arith, ints))
difference_at (negsuc a) (pos b) (pos c) e f g h = absurd (omega (arith, ints))
difference_at (negsuc a) (pos b) (negsuc c) e f g h = let s : a + b ≡ c = omega (arith, ints) in omega arith
difference_at (negsuc a) (negsuc b) (pos c) e f g h = let s : a + c ≡ b = omega (arith, ints) in omega arith
difference_at (negsuc a) (negsuc b) (negsuc c) e f g h = let s : b + c + 1 ≡ a = omega (arith, ints) in omega arith

pub difference_bits : (z w : ℤ) → IsLong z → IsLong w → IsLong (z -ℤ w) → bvsub 64 (bits_of 64 z) (bits_of 64 w) ≡ bits_of 64 (z -ℤ w)
difference_bits z w = difference_at z w (z -ℤ w) refl
