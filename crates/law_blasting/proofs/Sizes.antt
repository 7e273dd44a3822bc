-- A shift has few choices.
use Rattle.std.proofs.Common.{◌≡◌, ℕ, zero, suc, ◌+◌, ◌*◌, ◌^◌, ◌<◌, ◌≤◌, Bool, true, false, refl, ap, ◌∙◌, arith, pow-suc, mul-one, mul_assoc, mul_comm}
use Rattle.std.specs.Prelude.{nat_lt}
use Rattle.std.proofs.lemmas.Bool.{ltb-true}
use Rattle.law_blasting.specs.Sizes.{shift_size, ShiftsAreSmall}

-- one place higher, twice as many places are left by one bit less
halved : (a j : ℕ) → a * 2 ^ suc j ≡ (2 * a) * 2 ^ j
halved a j = ap (λ p. a * p) (pow-suc 2 j ∙ mul_comm (2 ^ j) 2) ∙ omega (arith, mul_assoc a 2 (2 ^ j), ap (λ x. x * 2 ^ j) (mul_comm a 2))

-- where a times 2 to the j are as many places as there are, j choices are left
few : (j n a k : ℕ) → n ≤ a * 2 ^ j → k ≤ 128 → shift_size n a k ≤ j * n + (128 + n)
few j n a zero l m = omega arith
few zero n a (suc k) l m = by (nat_lt a n) refl
  where
    by : (t : Bool) → nat_lt a n ≡ t → elim t [ true ↦ n + shift_size n (2 * a) k | false ↦ suc k + n ] ≤ 0 * n + (128 + n)
    by true e = let q : a < n = ltb-true a n e in absurd (omega (arith, q, l, mul-one a))
    by false e = omega (arith, m)
few (suc j) n a (suc k) l m = by (nat_lt a n) (few j n (2 * a) k (omega (arith, l, halved a j)) (omega (arith, m)))
  where
    by : (t : Bool) → shift_size n (2 * a) k ≤ j * n + (128 + n) → elim t [ true ↦ n + shift_size n (2 * a) k | false ↦ suc k + n ] ≤ suc j * n + (128 + n)
    by true again = omega (arith, again, suc_times)
      where
        suc_times : suc j * n ≡ n + j * n
        suc_times = omega (arith, mul_comm (suc j) n, mul_comm j n)
    by false again = omega (arith, m)

pub shifts_are_small : ShiftsAreSmall
shifts_are_small n k l m = let f : shift_size n 1 k ≤ 7 * n + (128 + n) = few 7 n 1 k (omega (arith, l)) m in omega (arith, f, l)
