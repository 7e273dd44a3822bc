-- Barrel shifters, stage by stage.
use Rattle.std.proofs.Common.{◌≡◌, ℕ, zero, suc, ◌+◌, ◌-◌, ◌*◌, ◌/◌, ◌%◌, ◌^◌, ◌<◌, ◌≤◌, Bool, true, false, cond, List, [], ◌∷◌, ◌++◌, drop, length, take, replicate, refl, sym, ap, ◌∙◌, subst, arith, mod-eq_of_lt, pow-suc, mul_assoc, mul_comm, mul-zero, mul-suc, mul-one, mul-add, div-le_self, length-append}
use Rattle.std.specs.Prelude.{nat_lt}
use Rattle.std.proofs.Math.Nat.{mul-mod_left, zero-div, div-eq_of_lt, div-one}
use Rattle.std.proofs.Math.Arith.{mod-mul}
use Rattle.std.proofs.Math.Pow.{pow_mono, pow_pos}
use Rattle.std.proofs.lemmas.Nat.{mul-mod_first, pow-add, shr-shr}
use Rattle.std.proofs.lemmas.List.{length-replicate, length-take}
use Rattle.std.proofs.lemmas.Bool.{ltb-false}
use Rattle.law_blasting.specs.Circuits.{truth_gates, weight, number, choose, any_of, up, down, shift, zeros}
use Rattle.law_blasting.specs.CircuitLaws.{ShiftsGoUp, ShiftsGoDown}
use Rattle.law_blasting.proofs.Sums.{number_below, weight_small}

-- ---- lists of bits

-- zeros in front of the lowest bit
number_raised : (k : ℕ) (xs : List Bool) → number (replicate k false ++ xs) ≡ number xs * 2 ^ k
number_raised zero xs = sym (mul-one (number xs))
number_raised (suc k) xs =
    let h = number_raised k xs in
    let e : number xs * 2 ^ suc k ≡ number xs * 2 ^ k * 2 = ap (λ n. number xs * n) (pow-suc 2 k) ∙ sym (mul_assoc (number xs) (2 ^ k) 2) in
    omega (arith, h, e)

-- zeros above the highest
pub number_padded : (k : ℕ) (xs : List Bool) → number (xs ++ replicate k false) ≡ number xs
number_padded zero [] = refl
number_padded (suc k) [] = omega (arith, number_padded k [])
number_padded k (x ∷ xs) = ap (λ n. weight x + 2 * n) (number_padded k xs)

-- the lowest bits
pub digit : (w q m : ℕ) → w ≤ 1 → 0 < m → (w + 2 * q) % (m * 2) ≡ w + 2 * (q % m)
digit w q m l p =
    let half : (w + 2 * q) / 2 ≡ q = omega (arith, l) in
    let low : (w + 2 * q) % 2 ≡ w = omega (arith, l) in
    mod-mul (w + 2 * q) p (omega arith) ∙ omega (arith, ap (λ x. x % m) half, low)

number_taken : (n : ℕ) (xs : List Bool) → number (take n xs) ≡ number xs % 2 ^ n
number_taken zero xs = omega arith
number_taken (suc n) [] = sym (mod-eq_of_lt (pow_pos (suc n)))
number_taken (suc n) (x ∷ xs) =
    ap (λ m. weight x + 2 * m) (number_taken n xs) ∙ sym (digit (weight x) (number xs) (2 ^ n) (weight_small x) (pow_pos n)) ∙ ap (λ m. (weight x + 2 * number xs) % m) (sym (pow-suc 2 n))

-- the highest bits
number_dropped : (k : ℕ) (xs : List Bool) → number (drop k xs) ≡ number xs / 2 ^ k
number_dropped zero xs = sym (div-one (number xs))
number_dropped (suc k) [] = sym (zero-div (2 ^ suc k))
number_dropped (suc k) (x ∷ xs) =
    let half : (weight x + 2 * number xs) / 2 ^ 1 ≡ number xs = omega (arith, weight_small x) in
    let one : 1 + k ≡ suc k = omega arith in
    number_dropped k xs ∙ ap (λ n. n / 2 ^ k) (sym half) ∙ shr-shr (weight x + 2 * number xs) 1 k ∙ ap (λ j. (weight x + 2 * number xs) / 2 ^ j) one

-- ---- one stage

up_number : (k : ℕ) (xs : List Bool) → number (up truth_gates k xs) ≡ (number xs * 2 ^ k) % 2 ^ length xs
up_number k xs = number_taken (length xs) (replicate k false ++ xs) ∙ ap (λ n. n % 2 ^ length xs) (number_raised k xs)

quotient_below : (a k n : ℕ) → a < 2 ^ n → a / 2 ^ k < 2 ^ n
quotient_below a k n l = omega (arith, l, div-le_self a (2 ^ k))

down_number : (k : ℕ) (xs : List Bool) → number (down truth_gates k xs) ≡ number xs / 2 ^ k
down_number k xs =
    number_taken (length xs) (drop k xs ++ replicate (length xs) false) ∙ ap (λ n. n % 2 ^ length xs) (number_padded (length xs) (drop k xs) ∙ number_dropped k xs)
    ∙ mod-eq_of_lt (quotient_below (number xs) k (length xs) (number_below xs))

pub up_length : (k : ℕ) (xs : List Bool) → length (up truth_gates k xs) ≡ length xs
up_length k xs = length-take (length xs) (replicate k false ++ xs) ∙ omega (arith, length-append (replicate k false) xs)

pub down_length : (k : ℕ) (xs : List Bool) → length (down truth_gates k xs) ≡ length xs
down_length k xs = length-take (length xs) (drop k xs ++ replicate (length xs) false) ∙ omega (arith, length-append (drop k xs) (replicate (length xs) false), length-replicate (length xs) false)

pub chosen : (b : Bool) (xs ys : List Bool) → length xs ≡ length ys → choose truth_gates b xs ys ≡ cond b xs ys
chosen true [] [] e = refl
chosen false [] [] e = refl
chosen b [] (y ∷ ys) e = absurd (omega (arith, e))
chosen b (x ∷ xs) [] e = absurd (omega (arith, e))
chosen true (x ∷ xs) (y ∷ ys) e = ap (λ zs. x ∷ zs) (chosen true xs ys (omega (arith, e)))
chosen false (x ∷ xs) (y ∷ ys) e = ap (λ zs. y ∷ zs) (chosen false xs ys (omega (arith, e)))

either_length : (b : Bool) (xs ys : List Bool) → length xs ≡ length ys → length (cond b xs ys) ≡ length ys
either_length true xs ys e = e
either_length false xs ys e = refl

pub shift_length : (move : ℕ → List Bool → List Bool) → ((k : ℕ) (xs : List Bool) → length (move k xs) ≡ length xs) → (n a : ℕ) (bs xs : List Bool) → length (shift truth_gates move n a bs xs) ≡ length xs
shift_length move keeps n a [] xs = refl
shift_length move keeps n a (b ∷ bs) xs = by (nat_lt a n) (shift_length move keeps n (2 * a) bs (choose truth_gates b (move a xs) xs))
  where
    by : (t : Bool) → length (shift truth_gates move n (2 * a) bs (choose truth_gates b (move a xs) xs)) ≡ length (choose truth_gates b (move a xs) xs) → length {A = Bool} (elim t [ true ↦ shift truth_gates move n (2 * a) bs (choose truth_gates b (move a xs) xs) | false ↦ choose truth_gates (any_of truth_gates (b ∷ bs)) (zeros truth_gates xs) xs ]) ≡ length xs
    by true again = again ∙ ap length (chosen b (move a xs) xs (keeps a xs)) ∙ either_length b (move a xs) xs (keeps a xs)
    by false again = let z : length (zeros truth_gates xs) ≡ length xs = length-replicate (length xs) false in ap length (chosen (any_of truth_gates (b ∷ bs)) (zeros truth_gates xs) xs z) ∙ either_length (any_of truth_gates (b ∷ bs)) (zeros truth_gates xs) xs z

-- ---- what is left out

some_is : (bs : List Bool) → any_of truth_gates bs ≡ true → 1 ≤ number bs
some_is [] e = absurd (cc)
some_is (true ∷ bs) e = omega arith
some_is (false ∷ bs) e = omega (arith, some_is bs e)

none_is : (bs : List Bool) → any_of truth_gates bs ≡ false → number bs ≡ 0
none_is [] e = refl
none_is (true ∷ bs) e = absurd (cc)
none_is (false ∷ bs) e = omega (arith, none_is bs e)

pub zeros_number : (n : ℕ) → number (replicate n false) ≡ 0
zeros_number zero = refl
zeros_number (suc n) = omega (arith, zeros_number n)

-- a power that is far enough leaves nothing of the low bits
nothing_low : (x n m : ℕ) → n ≤ m → (x * 2 ^ m) % 2 ^ n ≡ 0
nothing_low x n m l =
    let e : (m - n) + n ≡ m = omega arith in
    ap (λ k. (x * 2 ^ k) % 2 ^ n) (sym e) ∙ ap (λ k. (x * k) % 2 ^ n) (pow-add 2 (m - n) n) ∙ ap (λ k. k % 2 ^ n) (sym (mul_assoc x (2 ^ (m - n)) (2 ^ n))) ∙ mul-mod_left (x * 2 ^ (m - n)) (2 ^ n)

nothing_high : (x n m : ℕ) → x < 2 ^ n → n ≤ m → x / 2 ^ m ≡ 0
nothing_high x n m l k = let p : 2 ^ n ≤ 2 ^ m = pow_mono k in div-eq_of_lt (omega (arith, l, p))

far : (a m n : ℕ) → n ≤ a → 1 ≤ m → n ≤ a * m
far a zero n l p = absurd (omega (arith, p))
far a (suc m) n l p = omega (arith, l, mul-suc a m)

twice : (a m : ℕ) → a * (2 * m) ≡ (2 * a) * m
twice a m = sym (mul_assoc a 2 m) ∙ ap (λ x. x * m) (mul_comm a 2)

-- the places that a bit and those above it count
places : (a m : ℕ) (b : Bool) → a * (weight b + 2 * m) ≡ cond b a 0 + (2 * a) * m
places a m true = mul-add a 1 (2 * m) ∙ omega (arith, mul-one a, twice a m)
places a m false = omega (arith, twice a m)

-- ---- all stages

module _ (move : ℕ → List Bool → List Bool) (F : ℕ → ℕ → ℕ → ℕ) (keeps : (k : ℕ) (xs : List Bool) → length (move k xs) ≡ length xs) (moves : (k : ℕ) (xs : List Bool) → number (move k xs) ≡ F (length xs) (number xs) k)
    (still : (n x : ℕ) → x < 2 ^ n → F n x 0 ≡ x) (onward : (n x j k : ℕ) → F n (F n x j) k ≡ F n x (j + k)) (away : (n x m : ℕ) → x < 2 ^ n → n ≤ m → F n x m ≡ 0) where
  shifted : (a : ℕ) (bs xs : List Bool) → number (shift truth_gates move (length xs) a bs xs) ≡ F (length xs) (number xs) (a * number bs)
  shifted a [] xs = sym (ap (F (length xs) (number xs)) (mul-zero a) ∙ still (length xs) (number xs) (number_below xs))
  shifted a (b ∷ bs) xs = by (nat_lt a (length xs)) refl (shifted (2 * a) bs (choose truth_gates b (move a xs) xs))
    where
      stage : List Bool
      stage = choose truth_gates b (move a xs) xs

      stage_length : length stage ≡ length xs
      stage_length = ap length (chosen b (move a xs) xs (keeps a xs)) ∙ either_length b (move a xs) xs (keeps a xs)

      stage_by : (c : Bool) → number (cond c (move a xs) xs) ≡ F (length xs) (number xs) (cond c a 0)
      stage_by true = moves a xs
      stage_by false = sym (still (length xs) (number xs) (number_below xs))

      stage_number : number stage ≡ F (length xs) (number xs) (cond b a 0)
      stage_number = ap number (chosen b (move a xs) xs (keeps a xs)) ∙ stage_by b

      rest : (c : Bool) → any_of truth_gates (b ∷ bs) ≡ c → length xs ≤ a → number (choose truth_gates (any_of truth_gates (b ∷ bs)) (replicate (length xs) false) xs) ≡ F (length xs) (number xs) (a * number (b ∷ bs))
      rest true e l =
          ap number (ap (λ d. choose truth_gates d (replicate (length xs) false) xs) e ∙ chosen true (replicate (length xs) false) xs (length-replicate (length xs) false)) ∙ zeros_number (length xs)
          ∙ sym (away (length xs) (number xs) (a * number (b ∷ bs)) (number_below xs) (far a (number (b ∷ bs)) (length xs) l (some_is (b ∷ bs) e)))
      rest false e l =
          ap number (ap (λ d. choose truth_gates d (replicate (length xs) false) xs) e ∙ chosen false (replicate (length xs) false) xs (length-replicate (length xs) false))
          ∙ sym (ap (λ m. F (length xs) (number xs) (a * m)) (none_is (b ∷ bs) e) ∙ ap (F (length xs) (number xs)) (mul-zero a) ∙ still (length xs) (number xs) (number_below xs))

      by : (t : Bool) → nat_lt a (length xs) ≡ t → number (shift truth_gates move (length stage) (2 * a) bs stage) ≡ F (length stage) (number stage) (2 * a * number bs) → number (elim t [ true ↦ shift truth_gates move (length xs) (2 * a) bs stage | false ↦ choose truth_gates (any_of truth_gates (b ∷ bs)) (replicate (length xs) false) xs ]) ≡ F (length xs) (number xs) (a * number (b ∷ bs))
      by true e again =
          subst (λ n. number (shift truth_gates move n (2 * a) bs stage) ≡ F n (number stage) (2 * a * number bs)) stage_length again
          ∙ ap (λ v. F (length xs) v (2 * a * number bs)) stage_number
          ∙ onward (length xs) (number xs) (cond b a 0) (2 * a * number bs)
          ∙ ap (F (length xs) (number xs)) (sym (places a (number bs) b))
      by false e again = rest (any_of truth_gates (b ∷ bs)) refl (ltb-false a (length xs) e)

-- ---- up and down

raised : ℕ → ℕ → ℕ → ℕ
raised n x k = (x * 2 ^ k) % 2 ^ n

lowered : ℕ → ℕ → ℕ → ℕ
lowered n x k = x / 2 ^ k

up_still : (n x : ℕ) → x < 2 ^ n → raised n x 0 ≡ x
unfolding raised
up_still n x l = ap (λ v. v % 2 ^ n) (mul-one x) ∙ mod-eq_of_lt l

up_onward : (n x j k : ℕ) → raised n (raised n x j) k ≡ raised n x (j + k)
unfolding raised
up_onward n x j k = mul-mod_first (x * 2 ^ j) (2 ^ k) (2 ^ n) ∙ ap (λ v. v % 2 ^ n) (mul_assoc x (2 ^ j) (2 ^ k) ∙ ap (λ v. x * v) (sym (pow-add 2 j k)))

shl_is : (n x b : ℕ) (t : Bool) → nat_lt b n ≡ t → (x * 2 ^ b) % 2 ^ n ≡ elim t [ true ↦ (x * 2 ^ b) % 2 ^ n | false ↦ 0 ]
shl_is n x b true e = refl
shl_is n x b false e = nothing_low x n b (ltb-false b n e)

lshr_is : (n x b : ℕ) (t : Bool) → x < 2 ^ n → nat_lt b n ≡ t → x / 2 ^ b ≡ elim t [ true ↦ x / 2 ^ b | false ↦ 0 ]
lshr_is n x b true l e = refl
lshr_is n x b false l e = nothing_high x n b l (ltb-false b n e)

pub shifts_go_up : ShiftsGoUp
unfolding raised
shifts_go_up xs ys =
    shifted (up truth_gates) raised up_length up_number up_still up_onward (λ n x m l k. nothing_low x n m k) 1 ys xs
    ∙ ap (raised (length xs) (number xs)) (omega arith) ∙ shl_is (length xs) (number xs) (number ys) (nat_lt (number ys) (length xs)) refl

pub shifts_go_down : ShiftsGoDown
unfolding lowered
shifts_go_down xs ys =
    shifted (down truth_gates) lowered down_length down_number (λ n x l. div-one x) (λ n x j k. shr-shr x j k) (λ n x m l k. nothing_high x n m l k) 1 ys xs
    ∙ ap (lowered (length xs) (number xs)) (omega arith) ∙ lshr_is (length xs) (number xs) (number ys) (nat_lt (number ys) (length xs)) (number_below xs) refl
