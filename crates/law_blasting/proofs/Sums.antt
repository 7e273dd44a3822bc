-- Adders and subtractors, bit by bit.
use Rattle.std.proofs.Common.{◌≡◌, ℕ, suc, ◌+◌, ◌-◌, ◌*◌, ◌%◌, ◌^◌, ◌<◌, ◌≤◌, Bool, true, false, List, [], ◌∷◌, length, refl, sym, ap, ◌∙◌, subst, arith, mod-eq_of_lt, pow-suc}
use Rattle.std.specs.Prelude.{nat_lt}
use Rattle.std.proofs.Math.Nat.{add-mul-mod_self_right}
use Rattle.std.proofs.lemmas.Bool.{ltb-true, ltb-false}
use Rattle.law_blasting.specs.Circuits.{truth_gates, weight, number, sum_bit, carry, borrow, sum, carry_out, difference, borrow_out}
use Rattle.law_blasting.specs.CircuitLaws.{SumsAreAdded, DifferencesAreTaken, LessIsBorrowed}

-- ---- one bit

pub added_bit : (a b c : Bool) → weight (sum_bit truth_gates a b c) + 2 * weight (carry truth_gates a b c) ≡ weight a + weight b + weight c
added_bit false false false = refl
added_bit false false true = refl
added_bit false true false = refl
added_bit false true true = refl
added_bit true false false = refl
added_bit true false true = refl
added_bit true true false = refl
added_bit true true true = refl

pub taken_bit : (a b c : Bool) → weight (sum_bit truth_gates a b c) + weight b + weight c ≡ weight a + 2 * weight (borrow truth_gates a b c)
taken_bit false false false = refl
taken_bit false false true = refl
taken_bit false true false = refl
taken_bit false true true = refl
taken_bit true false false = refl
taken_bit true false true = refl
taken_bit true true false = refl
taken_bit true true true = refl

pub weight_small : (b : Bool) → weight b ≤ 1
weight_small false = omega arith
weight_small true = omega arith

-- what is carried out counts twice as much one place higher
pub higher : (b : Bool) (k : ℕ) → weight b * 2 ^ suc k ≡ 2 * (weight b * 2 ^ k)
higher false k = omega arith
higher true k = omega (arith, pow-suc 2 k)

-- ---- all bits

pub number_below : (xs : List Bool) → number xs < 2 ^ length xs
number_below [] = omega arith
number_below (x ∷ xs) = omega (arith, number_below xs, weight_small x, pow-suc 2 (length xs))

pub sum_length : (xs ys : List Bool) (c : Bool) → length xs ≡ length ys → length (sum truth_gates xs ys c) ≡ length xs
sum_length [] ys c e = refl
sum_length (x ∷ xs) [] c e = omega (arith, e)
sum_length (x ∷ xs) (y ∷ ys) c e = ap suc (sum_length xs ys (carry truth_gates x y c) (omega (arith, e)))

pub difference_length : (xs ys : List Bool) (c : Bool) → length xs ≡ length ys → length (difference truth_gates xs ys c) ≡ length xs
difference_length [] ys c e = refl
difference_length (x ∷ xs) [] c e = omega (arith, e)
difference_length (x ∷ xs) (y ∷ ys) c e = ap suc (difference_length xs ys (borrow truth_gates x y c) (omega (arith, e)))

-- the whole sum is the bits and what is carried out of the highest
whole_sum : (xs ys : List Bool) (c : Bool) → length xs ≡ length ys → number (sum truth_gates xs ys c) + weight (carry_out truth_gates xs ys c) * 2 ^ length xs ≡ number xs + number ys + weight c
whole_sum [] [] c e = omega arith
whole_sum [] (y ∷ ys) c e = omega (arith, e)
whole_sum (x ∷ xs) [] c e = omega (arith, e)
whole_sum (x ∷ xs) (y ∷ ys) c e =
    let d = carry truth_gates x y c in
    let h = whole_sum xs ys d (omega (arith, e)) in
    let p = higher (carry_out truth_gates xs ys d) (length xs) in
    omega (arith, h, p, added_bit x y c)

-- the same of a difference, with what is borrowed
whole_difference : (xs ys : List Bool) (c : Bool) → length xs ≡ length ys → number (difference truth_gates xs ys c) + number ys + weight c ≡ number xs + weight (borrow_out truth_gates xs ys c) * 2 ^ length xs
whole_difference [] [] c e = omega arith
whole_difference [] (y ∷ ys) c e = omega (arith, e)
whole_difference (x ∷ xs) [] c e = omega (arith, e)
whole_difference (x ∷ xs) (y ∷ ys) c e =
    let d = borrow truth_gates x y c in
    let h = whole_difference xs ys d (omega (arith, e)) in
    let p = higher (borrow_out truth_gates xs ys d) (length xs) in
    omega (arith, h, p, taken_bit x y c)

-- a number below m and some m more is that number modulo m
reduced : (s t m k : ℕ) → s < m → t ≡ s + k * m → s ≡ t % m
reduced s t m k l e = sym (ap (λ x. x % m) e ∙ add-mul-mod_self_right s k m ∙ mod-eq_of_lt l)

pub sums_are_added : SumsAreAdded
sums_are_added xs ys e =
    let small : number (sum truth_gates xs ys false) < 2 ^ length xs = subst (λ n. number (sum truth_gates xs ys false) < 2 ^ n) (sum_length xs ys false e) (number_below (sum truth_gates xs ys false)) in
    reduced (number (sum truth_gates xs ys false)) (number xs + number ys) (2 ^ length xs) (weight (carry_out truth_gates xs ys false)) small (omega (arith, whole_sum xs ys false e))

difference_below : (xs ys : List Bool) → length xs ≡ length ys → number (difference truth_gates xs ys false) < 2 ^ length xs
difference_below xs ys e = subst (λ n. number (difference truth_gates xs ys false) < 2 ^ n) (difference_length xs ys false e) (number_below (difference truth_gates xs ys false))

second_below : (xs ys : List Bool) → length xs ≡ length ys → number ys < 2 ^ length xs
second_below xs ys e = subst (λ n. number ys < 2 ^ n) (sym e) (number_below ys)

-- by what is borrowed out of the highest
taken : (d a b m : ℕ) (t : Bool) → d < m → b < m → d + b ≡ a + weight t * m → d ≡ (a + (m - b)) % m
taken d a b m false l k e = reduced d (a + (m - b)) m 1 l (omega (arith, e, k))
taken d a b m true l k e = reduced d (a + (m - b)) m 0 l (omega (arith, e, k))

pub differences_are_taken : DifferencesAreTaken
differences_are_taken xs ys e =
    taken (number (difference truth_gates xs ys false)) (number xs) (number ys) (2 ^ length xs) (borrow_out truth_gates xs ys false) (difference_below xs ys e) (second_below xs ys e) (omega (arith, whole_difference xs ys false e))

less : (d a b m : ℕ) (t u : Bool) → nat_lt a b ≡ u → d < m → d + b ≡ a + weight t * m → t ≡ u
less d a b m true true f l e = refl
less d a b m false false f l e = refl
less d a b m true false f l e = let q : b ≤ a = ltb-false a b f in absurd (omega (arith, e, l, q))
less d a b m false true f l e = let q : a < b = ltb-true a b f in absurd (omega (arith, e, l, q))

pub less_is_borrowed : LessIsBorrowed
less_is_borrowed xs ys e =
    less (number (difference truth_gates xs ys false)) (number xs) (number ys) (2 ^ length xs) (borrow_out truth_gates xs ys false) (nat_lt (number xs) (number ys)) refl (difference_below xs ys e) (omega (arith, whole_difference xs ys false e))
