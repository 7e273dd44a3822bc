-- Two's complement: values and their bits, and the signed quotient and remainder.
use Rattle.std.proofs.Common.{◌≡◌, ℕ, ◌+◌, ◌-◌, ◌*◌, ◌/◌, ◌%◌, ◌^◌, ◌<◌, ◌≤◌, zero, suc, Bool, true, false, refl, ap, sym, ◌∙◌, arith}
use Rattle.std.specs.Prelude.{ℤ, pos, negsuc, ◌+ℤ◌, ◌*ℤ◌, neg_ℤ, cond, not, ◌||◌, int_div, int_rem, int_lt, int_le}
use Rattle.std.specs.Bool.{beq}
use Rattle.std.proofs.Math.Nat.{mod-eq_of_lt, mod_self, mod-le, mod-lt, div-le_self, zero-mod, div-add-mod', pow-suc, zero-mul}
use Rattle.std.proofs.Math.Dec.{eqb-suc-zero}
use Rattle.std.proofs.Math.Pow.{pow_pos}
use Rattle.std.proofs.lemmas.Int.{ints}
use Rattle.std.proofs.lemmas.Bool.{leb-true, leb-false, le-ltb, lt-leb}
use Rattle.law_numbers.specs.BitVectors.{is_negative, bits_of, bvneg, bvudiv, bvurem, negated_if, overflows}
use Rattle.law_numbers.specs.Laws.{SignedHasItsBits, BitsAreTakenIntoRange, DivisionRoundsTowardZero}
use Rattle.law_numbers.proofs.BitRanges.{bits_of-below}

-- the bits of a number that they hold
pub bits_of-pos : (n a : ℕ) → a < 2 ^ n → bits_of n (pos a) ≡ a
bits_of-pos n a h = mod-eq_of_lt h

pub bits_of-negsuc : (n a : ℕ) → a < 2 ^ n → bits_of n (negsuc a) ≡ 2 ^ n - suc a
bits_of-negsuc n a h =
    let e : a % 2 ^ n ≡ a = mod-eq_of_lt h in
    ap (λ x. 2 ^ n - 1 - x) e ∙ omega arith

bits_at : (s : Bool) (n a : ℕ) → a < 2 ^ n → bits_of n (cond s (negsuc (2 ^ n - 1 - a)) (pos a)) ≡ a
bits_at true n a h =
    let e : (2 ^ n - 1 - a) % 2 ^ n ≡ 2 ^ n - 1 - a = mod-eq_of_lt (omega arith) in
    ap (λ x. 2 ^ n - 1 - x) e ∙ omega arith
bits_at false n a h = mod-eq_of_lt h

pub signed_has_its_bits : SignedHasItsBits
signed_has_its_bits n a h = bits_at (is_negative n a) n a h

-- a divisor that is not 0 has a quotient and a remainder
udiv_at : (n a b : ℕ) → 0 < b → bvudiv n a b ≡ a / b
udiv_at n a zero h = absurd (omega arith)
udiv_at n a (suc b) h = ap (λ t. cond t (2 ^ n - 1) (a / suc b)) (eqb-suc-zero b)

pub urem_at : (n a b : ℕ) → 0 < b → bvurem n a b ≡ a % b
urem_at n a zero h = absurd (omega arith)
urem_at n a (suc b) h = ap (λ t. cond t a (a % suc b)) (eqb-suc-zero b)

-- the bits of a negated number
bits_of_negated : (n q : ℕ) → q < 2 ^ n → bits_of n (neg_ℤ (pos q)) ≡ bvneg n q
bits_of_negated n zero h =
    let e : 2 ^ n ≡ 2 ^ n - 0 = omega arith in
    zero-mod (2 ^ n) ∙ sym (mod_self (2 ^ n)) ∙ ap (λ x. x % 2 ^ n) e
bits_of_negated n (suc q) h =
    let below : 2 ^ n - suc q < 2 ^ n = omega arith in
    bits_of-negsuc n q (omega arith) ∙ sym (mod-eq_of_lt below)

absolute : (n a : ℕ) → a < 2 ^ n → suc (2 ^ n - 1 - a) ≡ 2 ^ n - a
absolute n a h = omega arith

plain_quotient : (n a b : ℕ) → a < 2 ^ n → 0 < b → bvudiv n a b ≡ bits_of n (pos (a / b))
plain_quotient n a b h p =
    let q : a / b ≤ a = div-le_self a b in
    udiv_at n a b p ∙ sym (mod-eq_of_lt (omega arith))

negated_quotient : (n a b : ℕ) → a < 2 ^ n → 0 < b → bvneg n (bvudiv n a b) ≡ bits_of n (neg_ℤ (pos (a / b)))
negated_quotient n a b h p =
    let q : a / b ≤ a = div-le_self a b in
    ap (bvneg n) (udiv_at n a b p) ∙ sym (bits_of_negated n (a / b) (omega arith))

plain_remainder : (n a b : ℕ) → a < 2 ^ n → 0 < b → bvurem n a b ≡ bits_of n (pos (a % b))
plain_remainder n a b h p =
    let r : a % b ≤ a = mod-le a b in
    urem_at n a b p ∙ sym (mod-eq_of_lt (omega arith))

negated_remainder : (n a b : ℕ) → a < 2 ^ n → 0 < b → bvneg n (bvurem n a b) ≡ bits_of n (neg_ℤ (pos (a % b)))
negated_remainder n a b h p =
    let r : a % b ≤ a = mod-le a b in
    ap (bvneg n) (urem_at n a b p) ∙ sym (bits_of_negated n (a % b) (omega arith))

quotient_at : (s t : Bool) (n a b : ℕ) → is_negative n a ≡ s → a < 2 ^ n → b < 2 ^ n → 0 < b
    → negated_if (not (beq s t)) n (bvudiv n (cond s (2 ^ n - a) a) (cond t (2 ^ n - b) b))
    ≡ bits_of n (int_div (cond s (negsuc (2 ^ n - 1 - a)) (pos a)) (cond t (negsuc (2 ^ n - 1 - b)) (pos b)))
quotient_at false false n a b e h k p = plain_quotient n a b h p
quotient_at true false n a b e h k p =
    let s : 2 ^ n ≤ 2 * a = leb-true (2 ^ n) (2 * a) e in
    negated_quotient n (2 ^ n - a) b (omega arith) p ∙ ap (λ x. bits_of n (neg_ℤ (pos (x / b)))) (sym (absolute n a h))
quotient_at false true n a b e h k p =
    negated_quotient n a (2 ^ n - b) h (omega arith) ∙ ap (λ x. bits_of n (neg_ℤ (pos (a / x)))) (sym (absolute n b k))
quotient_at true true n a b e h k p =
    let s : 2 ^ n ≤ 2 * a = leb-true (2 ^ n) (2 * a) e in
    plain_quotient n (2 ^ n - a) (2 ^ n - b) (omega arith) (omega arith) ∙ ap (λ x. bits_of n (pos (x / (2 ^ n - b)))) (sym (absolute n a h)) ∙ ap (λ x. bits_of n (pos (suc (2 ^ n - 1 - a) / x))) (sym (absolute n b k))

remainder_at : (s t : Bool) (n a b : ℕ) → is_negative n a ≡ s → a < 2 ^ n → b < 2 ^ n → 0 < b
    → negated_if s n (bvurem n (cond s (2 ^ n - a) a) (cond t (2 ^ n - b) b))
    ≡ bits_of n (int_rem (cond s (negsuc (2 ^ n - 1 - a)) (pos a)) (cond t (negsuc (2 ^ n - 1 - b)) (pos b)))
remainder_at false false n a b e h k p = plain_remainder n a b h p
remainder_at true false n a b e h k p =
    let s : 2 ^ n ≤ 2 * a = leb-true (2 ^ n) (2 * a) e in
    negated_remainder n (2 ^ n - a) b (omega arith) p ∙ ap (λ x. bits_of n (neg_ℤ (pos (x % b)))) (sym (absolute n a h))
remainder_at false true n a b e h k p =
    plain_remainder n a (2 ^ n - b) h (omega arith) ∙ ap (λ x. bits_of n (pos (a % x))) (sym (absolute n b k))
remainder_at true true n a b e h k p =
    let s : 2 ^ n ≤ 2 * a = leb-true (2 ^ n) (2 * a) e in
    negated_remainder n (2 ^ n - a) (2 ^ n - b) (omega arith) (omega arith) ∙ ap (λ x. bits_of n (neg_ℤ (pos (x % (2 ^ n - b))))) (sym (absolute n a h)) ∙ ap (λ x. bits_of n (neg_ℤ (pos (suc (2 ^ n - 1 - a) % x)))) (sym (absolute n b k))

pub division_rounds : DivisionRoundsTowardZero
division_rounds n a b h k p = record {
  quotient = quotient_at (is_negative n a) (is_negative n b) n a b refl h k p;
  remainder = remainder_at (is_negative n a) (is_negative n b) n a b refl h k p;
}

-- the signed range of n bits, by half of 2 ^ n
halves : (n : ℕ) → 1 ≤ n → 2 ^ (n - 1) + 2 ^ (n - 1) ≡ 2 ^ n
halves zero h = absurd (omega arith)
halves (suc n) h =
    let e : suc n - 1 ≡ n = omega arith in
    ap (λ m. 2 ^ m + 2 ^ m) e ∙ omega (arith, pow-suc 2 n)

low_enough : (h x : ℕ) → x < h → (int_lt (negsuc x) (neg_ℤ (pos h)) || int_le (pos h) (negsuc x)) ≡ false
low_enough zero x k = absurd (omega arith)
low_enough (suc m) x k = ap (λ t. t || false) (le-ltb m x (omega arith))

high_enough : (h x : ℕ) → x < h → (int_lt (pos x) (neg_ℤ (pos h)) || int_le (pos h) (pos x)) ≡ false
high_enough zero x k = absurd (omega arith)
high_enough (suc m) x k = lt-leb (suc m) x k

range_at : (s : Bool) (n b : ℕ) → is_negative n b ≡ s → 1 ≤ n → b < 2 ^ n → overflows n (cond s (negsuc (2 ^ n - 1 - b)) (pos b)) ≡ false
range_at true n b e p h =
    let s : 2 ^ n ≤ 2 * b = leb-true (2 ^ n) (2 * b) e in
    low_enough (2 ^ (n - 1)) (2 ^ n - 1 - b) (omega (arith, halves n p))
range_at false n b e p h =
    let s : 2 * b < 2 ^ n = leb-false (2 ^ n) (2 * b) e in
    high_enough (2 ^ (n - 1)) b (omega (arith, halves n p))

pub negated_product : (q m : ℕ) → neg_ℤ (pos q) *ℤ pos m ≡ neg_ℤ (pos (q * m))
negated_product zero m = let e : pos 0 ≡ neg_ℤ (pos 0) = refl in ap pos (zero-mul m) ∙ e ∙ ap (λ x. neg_ℤ (pos x)) (sym (zero-mul m))
negated_product (suc q) m = refl

-- a number by its quotient and its remainder
off_at : (s : Bool) (n : ℕ) (z : ℤ) → (k : ℤ) × (z ≡ cond s (negsuc (2 ^ n - 1 - bits_of n z)) (pos (bits_of n z)) +ℤ k *ℤ pos (2 ^ n))
off_at false n (pos a) = (pos (a / 2 ^ n), omega (arith, ints, div-add-mod' a (2 ^ n)))
off_at false n (negsuc a) =
    let r : a % 2 ^ n < 2 ^ n = mod-lt a (pow_pos n) in
    (negsuc (a / 2 ^ n), omega (arith, ints, div-add-mod' a (2 ^ n)))
off_at true n (pos a) =
    let r : a % 2 ^ n < 2 ^ n = mod-lt a (pow_pos n) in
    (pos (a / 2 ^ n + 1), omega (arith, ints, div-add-mod' a (2 ^ n)))
off_at true n (negsuc a) =
    let r : a % 2 ^ n < 2 ^ n = mod-lt a (pow_pos n) in
    (neg_ℤ (pos (a / 2 ^ n)), omega (arith, ints, div-add-mod' a (2 ^ n), negated_product (a / 2 ^ n) (2 ^ n)))

pub bits_are_taken : BitsAreTakenIntoRange
bits_are_taken n z p = record {
  in_range = range_at (is_negative n (bits_of n z)) n (bits_of n z) refl p (bits_of-below n z);
  off = off_at (is_negative n (bits_of n z)) n z;
}
