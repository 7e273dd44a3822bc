-- The two's complement range of a width, at the machine's 128 bits.
use Rattle.std.proofs.Common.{◌≡◌, ℕ, ◌+◌, ◌-◌, ◌*◌, ◌%◌, ◌^◌, ◌<◌, ◌≤◌, false, refl, ap, sym, ◌∙◌, arith}
use Rattle.std.specs.Prelude.{ℤ, pos, negsuc, ◌-ℤ◌, neg_ℤ, FitsSigned, cond}
use Rattle.std.specs.Int.{w128, cast_signed, cast_unsigned}
use Rattle.std.proofs.Math.Pow.{pow_mono}
use Rattle.std.proofs.lemmas.Int.{ints, to_z_pos}
use Rattle.std.proofs.lemmas.Bool.{leb-false}
use Rattle.law_numbers.specs.BitVectors.{is_negative, signed, bits_of, greatest_signed, least_signed}
use Rattle.law_numbers.proofs.Masks.{cut_complement}

-- half of 2 to a width fits a signed number once 1 is taken
pub half_fits : (h n : ℕ) → h + h ≡ 2 ^ n → n ≤ 128 → h - 1 < 2 ^ 127
half_fits h n e k = let p : 2 ^ n ≤ 2 ^ 128 = pow_mono k in omega arith

pub greatest : (h n : ℕ) → h ≡ 2 ^ (n - 1) → h - 1 < 2 ^ 127 → cast_signed w128 (h - 1) ≡ greatest_signed n
greatest h n e k = to_z_pos w128 (h - 1) k ∙ ap (λ x. pos (x - 1)) e

least_at : (h : ℕ) → 0 < h → h - 1 < 2 ^ 127 → cast_signed w128 (cast_unsigned w128 (negsuc 0 -ℤ cast_signed w128 (h - 1))) ≡ neg_ℤ (pos h)
least_at h p k = omega (arith, ints)

pub least : (h n : ℕ) → h ≡ 2 ^ (n - 1) → 0 < h → h - 1 < 2 ^ 127 → cast_signed w128 (cast_unsigned w128 (negsuc 0 -ℤ cast_signed w128 (h - 1))) ≡ least_signed n
least h n e p k = least_at h p k ∙ ap (λ x. neg_ℤ (pos x)) e

-- a number whose sign bit is not set
pub small : (n a : ℕ) → is_negative n a ≡ false → n ≤ 128 → a < 2 ^ 127
small n a e k =
    let p : 2 ^ n ≤ 2 ^ 128 = pow_mono k in
    let q : 2 * a < 2 ^ n = leb-false (2 ^ n) (2 * a) e in
    omega arith

pub not_negative : (n a : ℕ) → is_negative n a ≡ false → n ≤ 128 → cast_signed w128 a ≡ signed n a
not_negative n a e k = to_z_pos w128 a (small n a e k) ∙ ap (λ t. cond t (negsuc (2 ^ n - 1 - a)) (pos a)) (sym e)

-- the bits of a machine's signed number, cut to n bits
pub bits_cut : (n : ℕ) (v : ℤ) → n ≤ 128 → FitsSigned w128 v → cast_unsigned w128 v % 2 ^ n ≡ bits_of n v
bits_cut n (pos a) h f = refl
bits_cut n (negsuc a) h f =
    let s : a < 2 ^ 127 = f.sfits in
    let e : cast_unsigned w128 (negsuc a) ≡ 2 ^ 128 - 1 - a = omega arith in
    ap (λ x. x % 2 ^ n) e ∙ cut_complement a n h (omega arith)
