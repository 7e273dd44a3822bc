-- The signed remainder with the divisor's sign.
use Rattle.std.proofs.Common.{◌≡◌, ℕ, ◌+◌, ◌-◌, ◌*◌, ◌/◌, ◌%◌, ◌^◌, ◌<◌, ◌≤◌, zero, suc, Bool, true, false, refl, ap, sym, ◌∙◌, subst, arith}
use Rattle.std.specs.Prelude.{ℤ, pos, negsuc, ◌*ℤ◌, neg_ℤ, cond, ◌==◌}
use Rattle.std.proofs.Math.Nat.{mod-eq_of_lt, mod-lt, div-add-mod', zero-mul, add-mod_left}
use Rattle.std.proofs.lemmas.Int.{ints}
use Rattle.std.proofs.lemmas.Bool.{leb-true, leb-false, le-leb, lt-leb, eqb-true, eqb-false}
use Rattle.law_numbers.specs.BitVectors.{is_negative, signed, bvneg, bvadd, bvsub, bvurem, magnitude, signed_modulus}
use Rattle.law_numbers.specs.Laws.{IsModulus, ModulusHasDivisorsSign}
use Rattle.law_numbers.proofs.TwosComplement.{urem_at, negated_product}

-- ---- whole numbers: q divisors and u more

both_positive : (a b q u : ℕ) → q * b + u ≡ a → u < b → IsModulus (pos a) (pos b) (pos u)
both_positive a b q u e h = record { left = (pos q, omega (arith, ints, e)); below = (omega (arith, ints), omega (arith, ints)) }

dividend_negative : (x b q u : ℕ) → q * b + u ≡ suc x → u < b → 0 < u → IsModulus (negsuc x) (pos b) (pos (b - u))
dividend_negative x b q u e h p = record { left = (negsuc q, omega (arith, ints, e)); below = (omega (arith, ints), omega (arith, ints)) }

divisor_negative : (a y q u : ℕ) → q * suc y + u ≡ a → u < suc y → 0 < u → IsModulus (pos a) (negsuc y) (negsuc (y - u))
divisor_negative a y q u e h p = record { left = (negsuc q, omega (arith, ints, e)); below = (omega (arith, ints), omega (arith, ints)) }

both_negative : (x y q u : ℕ) → q * suc y + u ≡ suc x → u < suc y → 0 < u → IsModulus (negsuc x) (negsuc y) (negsuc (u - 1))
both_negative x y q u e h p = record { left = (pos q, omega (arith, ints, e)); below = (omega (arith, ints), omega (arith, ints)) }

negated_both : (q y : ℕ) → neg_ℤ (pos q) *ℤ negsuc y ≡ pos (q * suc y)
negated_both zero y = let z : neg_ℤ (pos 0) ≡ pos 0 = refl in ap (λ x. neg_ℤ (pos x)) (zero-mul (suc y)) ∙ z ∙ ap pos (sym (zero-mul (suc y)))
negated_both (suc q) y = refl

whole_negative : (x b q : ℕ) → q * b ≡ suc x → 0 < b → IsModulus (negsuc x) (pos b) (pos 0)
whole_negative x b q e p = record { left = (neg_ℤ (pos q), omega (arith, ints, e, negated_product q b)); below = (omega (arith, ints), omega (arith, ints)) }

whole_by_negative : (a y q : ℕ) → q * suc y ≡ a → IsModulus (pos a) (negsuc y) (pos 0)
whole_by_negative a y q e = record { left = (neg_ℤ (pos q), omega (arith, ints, e, negated_both q y)); below = (omega (arith, ints), omega (arith, ints)) }

whole_both_negative : (x y q : ℕ) → q * suc y ≡ suc x → IsModulus (negsuc x) (negsuc y) (pos 0)
whole_both_negative x y q e = record { left = (pos q, omega (arith, ints, e)); below = (omega (arith, ints), omega (arith, ints)) }

-- ---- what a bitvector's number is in two's complement

pub signed_low : (n x : ℕ) → 2 * x < 2 ^ n → signed n x ≡ pos x
signed_low n x h = ap (λ t. cond t (negsuc (2 ^ n - 1 - x)) (pos x)) (lt-leb (2 ^ n) (2 * x) h)

pub signed_high : (n x : ℕ) → 2 ^ n ≤ 2 * x → signed n x ≡ negsuc (2 ^ n - 1 - x)
signed_high n x h = ap (λ t. cond t (negsuc (2 ^ n - 1 - x)) (pos x)) (le-leb (2 ^ n) (2 * x) h)

-- the modulus of z by d, from the number m that bvsmod gives
taken : (n m : ℕ) (z d r : ℤ) → signed n m ≡ r → IsModulus z d r → IsModulus z d (signed n m)
taken n m z d r e w = let P : ℤ → Type 0 = λ v. IsModulus z d v in subst P (sym e) w

zero_at : (s t : Bool) (n a b u q : ℕ) → is_negative n a ≡ s → is_negative n b ≡ t → a < 2 ^ n → b < 2 ^ n → 0 < b → q * cond t (2 ^ n - b) b + u ≡ cond s (2 ^ n - a) a → u ≡ 0
    → IsModulus (cond s (negsuc (2 ^ n - 1 - a)) (pos a)) (cond t (negsuc (2 ^ n - 1 - b)) (pos b)) (signed n 0)
zero_at false false n a b u q e f h k p w z = taken n 0 (pos a) (pos b) (pos 0) (signed_low n 0 (omega arith)) (both_positive a b q 0 (omega arith) p)
zero_at true false n a b u q e f h k p w z = taken n 0 (negsuc (2 ^ n - 1 - a)) (pos b) (pos 0) (signed_low n 0 (omega arith)) (whole_negative (2 ^ n - 1 - a) b q (omega arith) p)
zero_at false true n a b u q e f h k p w z =
    let y : suc (2 ^ n - 1 - b) ≡ 2 ^ n - b = omega arith in
    taken n 0 (pos a) (negsuc (2 ^ n - 1 - b)) (pos 0) (signed_low n 0 (omega arith)) (whole_by_negative a (2 ^ n - 1 - b) q (ap (λ m. q * m) y ∙ omega arith))
zero_at true true n a b u q e f h k p w z =
    let y : suc (2 ^ n - 1 - b) ≡ 2 ^ n - b = omega arith in
    taken n 0 (negsuc (2 ^ n - 1 - a)) (negsuc (2 ^ n - 1 - b)) (pos 0) (signed_low n 0 (omega arith)) (whole_both_negative (2 ^ n - 1 - a) (2 ^ n - 1 - b) q (ap (λ m. q * m) y ∙ omega arith))

more_at : (s t : Bool) (n a b u q : ℕ) → is_negative n a ≡ s → is_negative n b ≡ t → a < 2 ^ n → b < 2 ^ n → 0 < b → q * cond t (2 ^ n - b) b + u ≡ cond s (2 ^ n - a) a → u < cond t (2 ^ n - b) b → 0 < u
    → IsModulus (cond s (negsuc (2 ^ n - 1 - a)) (pos a)) (cond t (negsuc (2 ^ n - 1 - b)) (pos b)) (signed n (signed_modulus s t n u b))
more_at false false n a b u q e f h k p w l g =
    let low : 2 * b < 2 ^ n = leb-false (2 ^ n) (2 * b) f in
    taken n u (pos a) (pos b) (pos u) (signed_low n u (omega arith)) (both_positive a b q u w l)
more_at true false n a b u q e f h k p w l g =
    let low : 2 * b < 2 ^ n = leb-false (2 ^ n) (2 * b) f in
    let moved : b + (2 ^ n - u) ≡ 2 ^ n + (b - u) = omega arith in
    let is : bvsub n b u ≡ b - u = ap (λ x. x % 2 ^ n) moved ∙ add-mod_left (2 ^ n) (b - u) ∙ mod-eq_of_lt (omega arith) in
    taken n (bvsub n b u) (negsuc (2 ^ n - 1 - a)) (pos b) (pos (b - u)) (ap (signed n) is ∙ signed_low n (b - u) (omega arith)) (dividend_negative (2 ^ n - 1 - a) b q u (omega arith) l g)
more_at false true n a b u q e f h k p w l g =
    let high : 2 ^ n ≤ 2 * b = leb-true (2 ^ n) (2 * b) f in
    let y : suc (2 ^ n - 1 - b) ≡ 2 ^ n - b = omega arith in
    let is : bvadd n u b ≡ u + b = mod-eq_of_lt (omega arith) in
    let same : 2 ^ n - 1 - (u + b) ≡ 2 ^ n - 1 - b - u = omega arith in
    taken n (bvadd n u b) (pos a) (negsuc (2 ^ n - 1 - b)) (negsuc (2 ^ n - 1 - b - u)) (ap (signed n) is ∙ signed_high n (u + b) (omega arith) ∙ ap negsuc same) (divisor_negative a (2 ^ n - 1 - b) q u (ap (λ m. q * m + u) y ∙ w) (omega arith) g)
more_at true true n a b u q e f h k p w l g =
    let high : 2 ^ n ≤ 2 * b = leb-true (2 ^ n) (2 * b) f in
    let y : suc (2 ^ n - 1 - b) ≡ 2 ^ n - b = omega arith in
    let is : bvneg n u ≡ 2 ^ n - u = mod-eq_of_lt (omega arith) in
    let same : 2 ^ n - 1 - (2 ^ n - u) ≡ u - 1 = omega arith in
    taken n (bvneg n u) (negsuc (2 ^ n - 1 - a)) (negsuc (2 ^ n - 1 - b)) (negsuc (u - 1)) (ap (signed n) is ∙ signed_high n (2 ^ n - u) (omega arith) ∙ ap negsuc same) (both_negative (2 ^ n - 1 - a) (2 ^ n - 1 - b) q u (ap (λ m. q * m + u) y ∙ w ∙ omega arith) (omega arith) g)

modulus_at : (t : Bool) (n a b u q : ℕ) → u == 0 ≡ t → a < 2 ^ n → b < 2 ^ n → 0 < b → q * magnitude n b + u ≡ magnitude n a → u < magnitude n b
    → IsModulus (signed n a) (signed n b) (signed n (cond t 0 (signed_modulus (is_negative n a) (is_negative n b) n u b)))
modulus_at true n a b u q e h k p w l = zero_at (is_negative n a) (is_negative n b) n a b u q refl refl h k p w (eqb-true u 0 e)
modulus_at false n a b u q e h k p w l = more_at (is_negative n a) (is_negative n b) n a b u q refl refl h k p w l (positive_at u e)
  where
    positive_at : (u : ℕ) → u == 0 ≡ false → 0 < u
    positive_at zero e = absurd (eqb-false 0 0 e refl)
    positive_at (suc u) e = omega arith

magnitude_positive : (t : Bool) (n b : ℕ) → b < 2 ^ n → 0 < b → 0 < cond t (2 ^ n - b) b
magnitude_positive true n b k p = omega arith
magnitude_positive false n b k p = p

pub modulus_has_sign : ModulusHasDivisorsSign
modulus_has_sign n a b h k p =
    let m : 0 < magnitude n b = magnitude_positive (is_negative n b) n b k p in
    let u : bvurem n (magnitude n a) (magnitude n b) ≡ magnitude n a % magnitude n b = urem_at n (magnitude n a) (magnitude n b) m in
    modulus_at (bvurem n (magnitude n a) (magnitude n b) == 0) n a b (bvurem n (magnitude n a) (magnitude n b)) (magnitude n a / magnitude n b) refl h k p
    (ap (λ x. magnitude n a / magnitude n b * magnitude n b + x) u ∙ div-add-mod' (magnitude n a) (magnitude n b))
    (let P : ℕ → Type 0 = λ x. x < magnitude n b in subst P (sym u) (mod-lt (magnitude n a) m))
