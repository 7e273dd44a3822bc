-- Bits and the numbers that they are.
use Rattle.std.proofs.Common.{◌≡◌, ℕ, zero, suc, ◌+◌, ◌*◌, ◌/◌, ◌%◌, ◌^◌, ◌<◌, Bool, true, false, List, [], ◌∷◌, length, refl, sym, ap, ◌∙◌, arith, pow-suc}
use Rattle.std.specs.Prelude.{◌==◌}
use Rattle.std.specs.Bool.{beq, Decides}
use Rattle.std.proofs.Math.Pow.{pow_pos}
use Rattle.std.proofs.Math.Arith.{mod-mul}
use Rattle.std.proofs.lemmas.Bool.{and_from, and_parts}
use Rattle.std.proofs.lemmas.Bool.Decides.{Decides-eqb, same_from_decides}
use Rattle.law_blasting.specs.Circuits.{truth_gates, weight, number, number_bits, equal}
use Rattle.law_blasting.specs.CircuitLaws.{NumbersAreCompared, NumbersHaveBits, BitsHaveNumbers, ExtensionsKeep}
use Rattle.law_blasting.proofs.Sums.{weight_small}
use Rattle.law_blasting.proofs.Shifts.{number_padded}

false_true : false ≡ true → ⊥
false_true f = cc

odd_weight : (a : ℕ) (t : Bool) → (a % 2 == 1) ≡ t → weight t ≡ a % 2
odd_weight a true e = sym ((Decides-eqb (a % 2) 1).0 e)
odd_weight a false e = by (a % 2) refl (omega arith)
  where
    by : (r : ℕ) → a % 2 ≡ r → r < 2 → 0 ≡ r
    by zero f l = refl
    by (suc r) f l = let one : a % 2 ≡ 1 = omega (arith, f, l) in absurd (false_true (sym e ∙ (Decides-eqb (a % 2) 1).1 one))

pub numbers_have_bits : NumbersHaveBits
numbers_have_bits zero a = omega arith
numbers_have_bits (suc n) a =
    let w = odd_weight a (a % 2 == 1) refl in
    let h = numbers_have_bits n (a / 2) in
    let p : 0 < 2 ^ n = pow_pos n in
    let m : a % (2 ^ n * 2) ≡ 2 * ((a / 2) % 2 ^ n) + a % 2 = mod-mul a p (omega arith) ∙ omega arith in
    omega (arith, w, h, m, ap (λ k. a % k) (pow-suc 2 n))

weight_odd : (b : Bool) (m : ℕ) → ((weight b + 2 * m) % 2 == 1) ≡ b
weight_odd true m = (Decides-eqb ((1 + 2 * m) % 2) 1).1 (omega arith)
weight_odd false m = by ((0 + 2 * m) % 2 == 1) refl
  where
    by : (t : Bool) → ((0 + 2 * m) % 2 == 1) ≡ t → t ≡ false
    by false e = refl
    by true e = let q : (0 + 2 * m) % 2 ≡ 1 = (Decides-eqb ((0 + 2 * m) % 2) 1).0 e in absurd (omega (arith, q))

pub bits_have_numbers : BitsHaveNumbers
bits_have_numbers [] = refl
bits_have_numbers (b ∷ bs) =
    let half : (weight b + 2 * number bs) / 2 ≡ number bs = omega (arith, weight_small b) in
    ap (λ c. c ∷ number_bits (length bs) ((weight b + 2 * number bs) / 2)) (weight_odd b (number bs)) ∙ ap (λ m. b ∷ number_bits (length bs) m) half ∙ ap (λ cs. b ∷ cs) (bits_have_numbers bs)

-- ---- equality

first_number : (b c : Bool) (m n : ℕ) → weight b + 2 * m ≡ weight c + 2 * n → (b ≡ c) × (m ≡ n)
first_number true true m n e = (refl, omega (arith, e))
first_number false false m n e = (refl, omega (arith, e))
first_number true false m n e = absurd (omega (arith, e))
first_number false true m n e = absurd (omega (arith, e))

same_bit : (b c : Bool) → beq b c ≡ true → b ≡ c
same_bit true true e = refl
same_bit false false e = refl
same_bit true false e = cc
same_bit false true e = cc

bit_itself : (b c : Bool) → b ≡ c → beq b c ≡ true
bit_itself true true e = refl
bit_itself false false e = refl
bit_itself true false e = cc
bit_itself false true e = cc

pub equal_decides : (xs ys : List Bool) → length xs ≡ length ys → Decides (equal truth_gates xs ys) (number xs ≡ number ys)
equal_decides [] [] e = (λ h. refl, λ h. refl)
equal_decides [] (y ∷ ys) e = absurd (omega (arith, e))
equal_decides (x ∷ xs) [] e = absurd (omega (arith, e))
equal_decides (x ∷ []) (y ∷ []) e = (λ h. ap (λ b. weight b + 2 * 0) (same_bit x y h), λ h. bit_itself x y (first_number x y 0 0 h).0)
equal_decides (x ∷ []) (y ∷ (w ∷ ys)) e = absurd (omega (arith, e))
equal_decides (x ∷ (z ∷ xs)) (y ∷ ys) e =
    let d = equal_decides (z ∷ xs) ys (omega (arith, e)) in (
      λ h. let p = and_parts (beq x y) (equal truth_gates (z ∷ xs) ys) h in ap (λ b. weight b + 2 * number (z ∷ xs)) (same_bit x y p.0) ∙ ap (λ n. weight y + 2 * n) (d.0 p.1),
      λ h. let p = first_number x y (number (z ∷ xs)) (number ys) h in and_from (beq x y) (equal truth_gates (z ∷ xs) ys) (bit_itself x y p.0) (d.1 p.1),
    )

pub numbers_are_compared : NumbersAreCompared
numbers_are_compared xs ys e = same_from_decides (equal truth_gates xs ys) (number xs == number ys) (equal_decides xs ys e) (Decides-eqb (number xs) (number ys))

pub extensions_keep : ExtensionsKeep
extensions_keep k xs = number_padded k xs
