-- Clauses of signed quotients and remainders are valid.
use Rattle.std.proofs.Common.{◌≡◌, ◌-◌, ◌*◌, ◌^◌, ◌<◌, ◌≤◌, ℕ, Bool, true, false, ◌||◌, arith, ap, refl, sym, ◌∙◌, mod-eq_of_lt}
use Rattle.std.specs.Prelude.{◌==◌, cond, not, nat_le, int_lt, pos, negsuc}
use Rattle.std.specs.Bool.{beq}
use Rattle.std.proofs.Math.Pow.{pow_pos}
use Rattle.std.proofs.lemmas.Bool.{leb-true}
use Rattle.std.proofs.lemmas.Bool.Decides.{Decides-eqb}
use Rattle.std.proofs.lemmas.Int.{ints}
use Rattle.law_blasting.proofs.HasBits.{same_bits}
use Rattle.law_numbers.specs.BitVectors.{bvadd, bvneg, bvsdiv, bvslt, bvsmod, bvsrem, bvsub, bvudiv, bvurem, is_negative, magnitude, negated_if, signed, signed_modulus}
use Rattle.law_terms.proofs.ValueOrder.{values_decided}
use Rattle.law_terms.specs.Meaning.{meaning}
use Rattle.law_terms.specs.Operators.{number, width, to_bits, to_truth, truth}
use Rattle.law_terms.specs.ValueOrder.{value_eq}
use Rattle.law_terms.specs.Values.{Value, BitVecValue}
use Rattle.law_clauses.specs.SignedQuotients.{SignedQuotientsAreValid}
use Rattle.law_clauses.proofs.Quotients.{bits_form, by_numbers}
use Rattle.law_clauses.proofs.Structure.{is_same}

zero_sign : (n : ℕ) → is_negative n 0 ≡ false
zero_sign n = by (nat_le (2 ^ n) (2 * 0)) refl
  where
    by : (t : Bool) → nat_le (2 ^ n) (2 * 0) ≡ t → t ≡ false
    by false e = refl
    by true e = let p : 2 ^ n ≤ 2 * 0 = leb-true (2 ^ n) (2 * 0) e in let q : 0 < 2 ^ n = pow_pos n in absurd (omega (arith, p, q))

below : (a : ℕ) → int_lt (pos a) (pos 0) ≡ false
below a = by (int_lt (pos a) (pos 0)) refl
  where
    by : (t : Bool) → int_lt (pos a) (pos 0) ≡ t → t ≡ false
    by false e = refl
    by true e = absurd (omega (arith, ints, e))

-- less than 0 is that the sign is set
less_zero : (n a : ℕ) → bvslt n a 0 ≡ is_negative n a
less_zero n a = ap (λ u. int_lt (signed n a) (cond u (negsuc (2 ^ n - 1 - 0)) (pos 0))) (zero_sign n) ∙ by (is_negative n a)
  where
    by : (t : Bool) → int_lt (cond t (negsuc (2 ^ n - 1 - a)) (pos a)) (pos 0) ≡ t
    by true = refl
    by false = below a

abbrev pub negative_value : ℕ → Value → Value
negative_value n v = to_truth bvslt v (BitVecValue n 0)

abbrev pub negated_value : Bool → Value → Value
negated_value g v = cond g (BitVecValue (width v) (bvneg (width v) (number v))) v

abbrev pub magnitude_value : ℕ → Value → Value
magnitude_value n v = negated_value (truth (negative_value n v)) v

negated : (g : Bool) (n a : ℕ) → negated_value g (BitVecValue n a) ≡ BitVecValue n (negated_if g n a)
negated true n a = refl
negated false n a = refl

pub its_magnitude : (n a : ℕ) → magnitude_value n (BitVecValue n a) ≡ BitVecValue n (magnitude n a)
its_magnitude n a = ap (λ g. negated_value g (BitVecValue n a)) (less_zero n a) ∙ by (is_negative n a) refl
  where
    by : (t : Bool) → is_negative n a ≡ t → negated_value t (BitVecValue n a) ≡ BitVecValue n (cond t (2 ^ n - a) a)
    by false e = refl
    by true e =
        let p : 2 ^ n ≤ 2 * a = leb-true (2 ^ n) (2 * a) e in
        let q : 0 < 2 ^ n = pow_pos n in
        let l : 2 ^ n - a < 2 ^ n = omega (arith, p, q) in
        ap (BitVecValue n) (mod-eq_of_lt l)

-- an operator of the absolute values, of two numbers
of_magnitudes : (f : ℕ → ℕ → ℕ → ℕ) (n a b : ℕ) → to_bits f (magnitude_value n (BitVecValue n a)) (magnitude_value n (BitVecValue n b)) ≡ BitVecValue n (f n (magnitude n a) (magnitude n b))
of_magnitudes f n a b = ap (λ v. to_bits f v (magnitude_value n (BitVecValue n b))) (its_magnitude n a) ∙ ap (λ v. to_bits f (BitVecValue n (magnitude n a)) v) (its_magnitude n b)

pub signs_same : (n a b : ℕ) → value_eq (negative_value n (BitVecValue n a)) (negative_value n (BitVecValue n b)) ≡ beq (is_negative n a) (is_negative n b)
signs_same n a b = sym (same_bits (bvslt n a 0) (bvslt n b 0)) ∙ (ap (λ x. beq x (bvslt n b 0)) (less_zero n a) ∙ ap (λ x. beq (is_negative n a) x) (less_zero n b))

signs_differ : (n a b : ℕ) → not (value_eq (negative_value n (BitVecValue n a)) (negative_value n (BitVecValue n b))) ≡ not (beq (is_negative n a) (is_negative n b))
signs_differ n a b = ap not (signs_same n a b)

quotient_value : (n a b : ℕ) → BitVecValue n (bvsdiv n a b) ≡ negated_value (not (value_eq (negative_value n (BitVecValue n a)) (negative_value n (BitVecValue n b)))) (to_bits bvudiv (magnitude_value n (BitVecValue n a)) (magnitude_value n (BitVecValue n b)))
quotient_value n a b = sym (ap (λ g. negated_value g (to_bits bvudiv (magnitude_value n (BitVecValue n a)) (magnitude_value n (BitVecValue n b)))) (signs_differ n a b) ∙ (ap (negated_value (not (beq (is_negative n a) (is_negative n b)))) (of_magnitudes bvudiv n a b) ∙ negated (not (beq (is_negative n a) (is_negative n b))) n (bvudiv n (magnitude n a) (magnitude n b))))

remainder_value : (n a b : ℕ) → BitVecValue n (bvsrem n a b) ≡ negated_value (bvslt n a 0) (to_bits bvurem (magnitude_value n (BitVecValue n a)) (magnitude_value n (BitVecValue n b)))
remainder_value n a b = sym (ap (λ g. negated_value g (to_bits bvurem (magnitude_value n (BitVecValue n a)) (magnitude_value n (BitVecValue n b)))) (less_zero n a) ∙ (ap (negated_value (is_negative n a)) (of_magnitudes bvurem n a b) ∙ negated (is_negative n a) n (bvurem n (magnitude n a) (magnitude n b))))

-- two numbers of one width are the same value where they are the same
same_number : (n u k : ℕ) → value_eq (BitVecValue n u) (BitVecValue n k) ≡ (u == k)
same_number n u k = by (u == k) (value_eq (BitVecValue n u) (BitVecValue n k)) refl refl
  where
    by : (s t : Bool) → (u == k) ≡ s → value_eq (BitVecValue n u) (BitVecValue n k) ≡ t → t ≡ s
    by true t e f = sym f ∙ (values_decided (BitVecValue n u) (BitVecValue n k)).1 (ap (BitVecValue n) ((Decides-eqb u k).0 e))
    by false true e f = sym ((Decides-eqb u k).1 (ap number ((values_decided (BitVecValue n u) (BitVecValue n k)).0 f))) ∙ e
    by false false e f = refl

-- the remainder u of the absolute values with the sign of w, by the signs of both
abbrev modulus_value : ℕ → Value → (dividend divisor : Bool) → Value → Value
modulus_value n w s t u =
    cond (value_eq u (BitVecValue n 0)) (BitVecValue n 0)
    (cond s (cond t (BitVecValue (width u) (bvneg (width u) (number u))) (to_bits bvsub w u)) (cond t (to_bits bvadd u w) u))

with_sign : (n b u : ℕ) (s t : Bool) → cond s (cond t (BitVecValue n (bvneg n u)) (BitVecValue n (bvsub n b u))) (cond t (BitVecValue n (bvadd n u b)) (BitVecValue n u)) ≡ BitVecValue n (signed_modulus s t n u b)
with_sign n b u true true = refl
with_sign n b u true false = refl
with_sign n b u false true = refl
with_sign n b u false false = refl

modulus_number : (n b u : ℕ) (s t : Bool) → modulus_value n (BitVecValue n b) s t (BitVecValue n u) ≡ BitVecValue n (cond (u == 0) 0 (signed_modulus s t n u b))
modulus_number n b u s t =
    let v = cond s (cond t (BitVecValue n (bvneg n u)) (BitVecValue n (bvsub n b u))) (cond t (BitVecValue n (bvadd n u b)) (BitVecValue n u)) in
    ap (λ c. cond c (BitVecValue n 0) v) (same_number n u 0) ∙ (ap (λ x. cond (u == 0) (BitVecValue n 0) x) (with_sign n b u s t) ∙ by (u == 0))
  where
    by : (c : Bool) → cond c (BitVecValue n 0) (BitVecValue n (signed_modulus s t n u b)) ≡ BitVecValue n (cond c 0 (signed_modulus s t n u b))
    by true = refl
    by false = refl

modulus_is : (n a b : ℕ) → BitVecValue n (bvsmod n a b) ≡ modulus_value n (BitVecValue n b) (bvslt n a 0) (bvslt n b 0) (to_bits bvurem (magnitude_value n (BitVecValue n a)) (magnitude_value n (BitVecValue n b)))
modulus_is n a b =
    let u = to_bits bvurem (magnitude_value n (BitVecValue n a)) (magnitude_value n (BitVecValue n b)) in
    let w = BitVecValue n b in
    sym (ap (λ s. modulus_value n w s (bvslt n b 0) u) (less_zero n a) ∙ (ap (λ t. modulus_value n w (is_negative n a) t u) (less_zero n b) ∙ (ap (modulus_value n w (is_negative n a) (is_negative n b)) (of_magnitudes bvurem n a b) ∙ modulus_number n b (bvurem n (magnitude n a) (magnitude n b)) (is_negative n a) (is_negative n b))))

pub signed_quotients_are_valid : SignedQuotientsAreValid
signed_quotients_are_valid enums roots n a b s = (
  λ I g h.
      let v = bits_form n (meaning I a) (s.0 I g) in
      let w = bits_form n (meaning I b) (s.1 I g) in
      by_numbers n (meaning I a) (meaning I b) v.0 w.0 (λ x y. value_eq (to_bits bvsdiv x y) (negated_value (not (value_eq (negative_value n x) (negative_value n y))) (to_bits bvudiv (magnitude_value n x) (magnitude_value n y))) || false)
      (is_same _ _ (quotient_value n (number (meaning I a)) (number (meaning I b)))),
  (
    λ I g h.
        let v = bits_form n (meaning I a) (s.0 I g) in
        let w = bits_form n (meaning I b) (s.1 I g) in
        by_numbers n (meaning I a) (meaning I b) v.0 w.0 (λ x y. value_eq (to_bits bvsrem x y) (negated_value (truth (negative_value n x)) (to_bits bvurem (magnitude_value n x) (magnitude_value n y))) || false)
        (is_same _ _ (remainder_value n (number (meaning I a)) (number (meaning I b)))),
    (
      λ I g h.
          let v = bits_form n (meaning I a) (s.0 I g) in
          let w = bits_form n (meaning I b) (s.1 I g) in
          by_numbers n (meaning I a) (meaning I b) v.0 w.0 (λ x y. value_eq (to_bits bvsmod x y) (modulus_value n y (truth (negative_value n x)) (truth (negative_value n y)) (to_bits bvurem (magnitude_value n x) (magnitude_value n y))) || false)
          (is_same _ _ (modulus_is n (number (meaning I a)) (number (meaning I b)))),
      tt,
    ),
  ),
)
