-- Clauses of signed products that leave their range are valid.
use Rattle.std.proofs.Common.{◌≡◌, ◌+◌, ◌-◌, ◌*◌, ◌^◌, ◌<◌, ◌≤◌, ℕ, suc, Bool, true, false, ◌||◌, arith, ap, refl, sym, ◌∙◌, subst, mod-eq_of_lt}
use Rattle.std.specs.Prelude.{ℤ, ◌*ℤ◌, neg_ℤ, cond, nat_le, nat_lt, int_le, int_lt, pos, negsuc}
use Rattle.std.specs.Bool.{beq}
use Rattle.std.proofs.Math.IntN.{negsuc-*ℤ-negsuc, negsuc-*ℤ-pos, pos-*ℤ-negsuc, pos-*ℤ-pos}
use Rattle.std.proofs.Math.Pow.{pow_pos}
use Rattle.std.proofs.lemmas.Bool.{leb-false, leb-true, ltb-false, ltb-true}
use Rattle.std.proofs.lemmas.Int.{ints}
use Rattle.std.proofs.lemmas.Nat.{mul-lt, pow-add}
use Rattle.law_blasting.proofs.Overflows.{above, below, inside}
use Rattle.law_numbers.specs.BitVectors.{bvmul, bvsmulo, bvule, bvult, is_negative, magnitude, overflows}
use Rattle.law_terms.specs.Meaning.{meaning}
use Rattle.law_terms.specs.Operators.{number, to_bits, to_truth}
use Rattle.law_terms.specs.ValueOrder.{value_eq}
use Rattle.law_terms.specs.Values.{Value, BitVecValue, BoolValue}
use Rattle.law_clauses.specs.ProductOverflows.{ProductOverflowsAreValid}
use Rattle.law_clauses.proofs.Quotients.{bits_form, by_numbers, wide_value}
use Rattle.law_clauses.proofs.SignedQuotients.{its_magnitude, magnitude_value, negative_value, signs_same}
use Rattle.law_clauses.proofs.Structure.{is_same}

-- a whole number by its absolute value, and whether two signs that make it are the same
abbrev signed_by : Bool → ℕ → ℤ
signed_by true m = pos m
signed_by false m = neg_ℤ (pos m)

-- a product by the product of the absolute values
signed_product : (s t : Bool) (p a b : ℕ) → a < p → b < p → cond s (negsuc (p - 1 - a)) (pos a) *ℤ cond t (negsuc (p - 1 - b)) (pos b) ≡ signed_by (beq s t) (cond s (p - a) a * cond t (p - b) b)
signed_product false false p a b l k = pos-*ℤ-pos a b
signed_product false true p a b l k =
    let e : suc (p - 1 - b) ≡ p - b = omega (arith, k) in
    pos-*ℤ-negsuc a (p - 1 - b) ∙ ap (λ x. neg_ℤ (pos (a * x))) e
signed_product true false p a b l k =
    let e : suc (p - 1 - a) ≡ p - a = omega (arith, l) in
    negsuc-*ℤ-pos (p - 1 - a) b ∙ ap (λ x. neg_ℤ (pos (x * b))) e
signed_product true true p a b l k =
    let e : suc (p - 1 - a) ≡ p - a = omega (arith, l) in
    let f : suc (p - 1 - b) ≡ p - b = omega (arith, k) in
    negsuc-*ℤ-negsuc (p - 1 - a) (p - 1 - b) ∙ (ap (λ x. pos (x * suc (p - 1 - b))) e ∙ ap (λ x. pos ((p - a) * x)) f)

-- what is outside the range with h for half of the width's power
outside : (h m : ℕ) → 0 < h → (int_lt (pos m) (neg_ℤ (pos h)) || int_le (pos h) (pos m)) ≡ nat_le h m
outside h m l = by (nat_le h m) refl
  where
    by : (t : Bool) → nat_le h m ≡ t → (int_lt (pos m) (neg_ℤ (pos h)) || int_le (pos h) (pos m)) ≡ t
    by true e = let k : h ≤ m = leb-true h m e in above (pos m) h _ _ refl refl (omega (arith, ints, k))
    by false e = let k : m < h = leb-false h m e in inside (pos m) h _ _ refl refl (omega (arith, ints, k)) (omega (arith, ints, k))

outside_below : (h m : ℕ) → 0 < h → (int_lt (neg_ℤ (pos m)) (neg_ℤ (pos h)) || int_le (pos h) (neg_ℤ (pos m))) ≡ nat_lt h m
outside_below h m l = by (nat_lt h m) refl
  where
    by : (t : Bool) → nat_lt h m ≡ t → (int_lt (neg_ℤ (pos m)) (neg_ℤ (pos h)) || int_le (pos h) (neg_ℤ (pos m))) ≡ t
    by true e = let k : h < m = ltb-true h m e in below (neg_ℤ (pos m)) h _ _ refl refl (omega (arith, ints, k))
    by false e = let k : m ≤ h = ltb-false h m e in inside (neg_ℤ (pos m)) h _ _ refl refl (omega (arith, ints, k)) (omega (arith, ints, k, l))

overflows_by : (n m : ℕ) (c : Bool) → overflows n (signed_by c m) ≡ cond c (nat_le (2 ^ (n - 1)) m) (nat_lt (2 ^ (n - 1)) m)
overflows_by n m true = outside (2 ^ (n - 1)) m (pow_pos (n - 1))
overflows_by n m false = outside_below (2 ^ (n - 1)) m (pow_pos (n - 1))

-- an absolute value is of the width
small : (n a : ℕ) → a < 2 ^ n → magnitude n a < 2 ^ n
small n a l = by (is_negative n a) refl
  where
    by : (t : Bool) → is_negative n a ≡ t → cond t (2 ^ n - a) a < 2 ^ n
    by false e = l
    by true e = let p : 2 ^ n ≤ 2 * a = leb-true (2 ^ n) (2 * a) e in let q : 0 < 2 ^ n = pow_pos n in omega (arith, p, q)

-- nothing is lost in twice the width
whole : (n a b : ℕ) → a < 2 ^ n → b < 2 ^ n → bvmul (n + n) (magnitude n a) (magnitude n b) ≡ magnitude n a * magnitude n b
whole n a b l k =
    let p : magnitude n a * magnitude n b < 2 ^ n * 2 ^ n = mul-lt (magnitude n a) (magnitude n b) (2 ^ n) (2 ^ n) (small n a l) (small n b k) in
    mod-eq_of_lt (subst (λ x. magnitude n a * magnitude n b < x) (sym (pow-add 2 n n)) p)

-- `bvsmulo`, from whether the signs are the same and the product of the absolute values
abbrev compared : ℕ → Bool → ℕ → Bool
compared n c m = cond c (nat_le (2 ^ (n - 1)) m) (nat_lt (2 ^ (n - 1)) m)

leaves : (n a b : ℕ) → a < 2 ^ n → b < 2 ^ n → bvsmulo n a b ≡ compared n (beq (is_negative n a) (is_negative n b)) (bvmul (n + n) (magnitude n a) (magnitude n b))
leaves n a b l k =
    let c = beq (is_negative n a) (is_negative n b) in
    ap (overflows n) (signed_product (is_negative n a) (is_negative n b) (2 ^ n) a b l k) ∙ (overflows_by n (magnitude n a * magnitude n b) c ∙ ap (compared n c) (sym (whole n a b l k)))

-- the product of the absolute values of two values
abbrev product_value : ℕ → Value → Value → Value
product_value n v w = to_bits bvmul (wide_value n (magnitude_value n v)) (wide_value n (magnitude_value n w))

-- whether it is past the limit
abbrev compared_value : ℕ → Bool → Value → Value
compared_value n c p = cond c (to_truth bvule (BitVecValue (n + n) (2 ^ (n - 1))) p) (to_truth bvult (BitVecValue (n + n) (2 ^ (n - 1))) p)

compared_number : (n : ℕ) (c : Bool) (m : ℕ) → compared_value n c (BitVecValue (n + n) m) ≡ BoolValue (compared n c m)
compared_number n true m = refl
compared_number n false m = refl

product_is : (n a b : ℕ) → product_value n (BitVecValue n a) (BitVecValue n b) ≡ BitVecValue (n + n) (bvmul (n + n) (magnitude n a) (magnitude n b))
product_is n a b = ap (λ v. to_bits bvmul (wide_value n v) (wide_value n (magnitude_value n (BitVecValue n b)))) (its_magnitude n a) ∙ ap (λ v. to_bits bvmul (wide_value n (BitVecValue n (magnitude n a))) (wide_value n v)) (its_magnitude n b)

overflow_value : (n a b : ℕ) → a < 2 ^ n → b < 2 ^ n → BoolValue (bvsmulo n a b) ≡ compared_value n (value_eq (negative_value n (BitVecValue n a)) (negative_value n (BitVecValue n b))) (product_value n (BitVecValue n a) (BitVecValue n b))
overflow_value n a b l k =
    let c = beq (is_negative n a) (is_negative n b) in
    let m = bvmul (n + n) (magnitude n a) (magnitude n b) in
    ap BoolValue (leaves n a b l k) ∙ sym (ap (λ x. compared_value n x (product_value n (BitVecValue n a) (BitVecValue n b))) (signs_same n a b) ∙ (ap (compared_value n c) (product_is n a b) ∙ compared_number n c m))

pub product_overflows_are_valid : ProductOverflowsAreValid
product_overflows_are_valid enums roots n a b s I g h =
    let v = bits_form n (meaning I a) (s.0 I g) in
    let w = bits_form n (meaning I b) (s.1 I g) in
    by_numbers n (meaning I a) (meaning I b) v.0 w.0 (λ x y. value_eq (to_truth bvsmulo x y) (compared_value n (value_eq (negative_value n x) (negative_value n y)) (product_value n x y)) || false)
    (is_same _ _ (overflow_value n (number (meaning I a)) (number (meaning I b)) v.1 w.1))
