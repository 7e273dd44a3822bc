-- Comparisons in two's complement.
use Rattle.std.proofs.Common.{◌≡◌, ℕ, suc, ◌+◌, ◌-◌, ◌*◌, ◌^◌, ◌<◌, ◌≤◌, Bool, true, false, cond, List, [], ◌∷◌, length, refl, sym, ap, ◌∙◌, subst, arith, mul-one, pow-suc}
use Rattle.std.specs.Prelude.{nat_lt, nat_le, pos, negsuc, int_lt}
use Rattle.std.proofs.lemmas.Bool.{ltb-true, ltb-false, leb-true, leb-false, le-ltb, lt-ltb}
use Rattle.law_numbers.specs.BitVectors.{signed}
use Rattle.law_blasting.specs.Circuits.{weight, number, with_top}
use Rattle.law_blasting.specs.CircuitLaws.{LessIsSigned}
use Rattle.law_blasting.proofs.Sums.{higher, weight_small, less_is_borrowed}

-- the highest bit, and the number of those below it
abbrev pub top : Bool → List Bool → Bool
top x [] = x
top x (y ∷ xs) = top y xs

abbrev pub low : Bool → List Bool → ℕ
low x [] = 0
low x (y ∷ xs) = weight x + 2 * low y xs

pub number_parts : (x : Bool) (xs : List Bool) → number (x ∷ xs) ≡ low x xs + weight (top x xs) * 2 ^ length xs
number_parts x [] = omega (arith, mul-one (weight x))
number_parts x (y ∷ xs) = omega (arith, number_parts y xs, higher (top y xs) (length xs))

pub low_small : (x : Bool) (xs : List Bool) → low x xs < 2 ^ length xs
low_small x [] = omega arith
low_small x (y ∷ xs) = omega (arith, low_small y xs, weight_small x, pow-suc 2 (length xs))

exchanged : (x : Bool) (xs : List Bool) (y : Bool) (ys : List Bool) → length xs ≡ length ys → number (with_top (x ∷ xs) (y ∷ ys)) ≡ low x xs + weight (top y ys) * 2 ^ length xs
exchanged x [] y [] e = omega (arith, mul-one (weight y))
exchanged x [] y (w ∷ ys) e = absurd (omega (arith, e))
exchanged x (z ∷ xs) y [] e = absurd (omega (arith, e))
exchanged x (z ∷ xs) y (w ∷ ys) e = omega (arith, exchanged z xs w ys (omega (arith, e)), higher (top w ys) (length xs))

pub exchanged_length : (xs ys : List Bool) → length xs ≡ length ys → length (with_top xs ys) ≡ length xs
exchanged_length [] ys e = refl
exchanged_length (x ∷ xs) [] e = absurd (omega (arith, e))
exchanged_length (x ∷ []) (y ∷ ys) e = refl
exchanged_length (x ∷ (z ∷ xs)) (y ∷ ys) e = ap suc (exchanged_length (z ∷ xs) ys (omega (arith, e)))

-- ---- signs, with h for half of the width's power

pub negative_is : (p h l a : ℕ) (t u : Bool) → nat_le p (2 * a) ≡ u → p ≡ 2 * h → l < h → a ≡ l + weight t * h → u ≡ t
negative_is p h l a true true f e s g = refl
negative_is p h l a false false f e s g = refl
negative_is p h l a true false f e s g = let q : 2 * a < p = leb-false p (2 * a) f in absurd (omega (arith, e, s, g, q))
negative_is p h l a false true f e s g = let q : p ≤ 2 * a = leb-true p (2 * a) f in absurd (omega (arith, e, s, g, q))

same_less : (a b c d : ℕ) (t u : Bool) → nat_lt a b ≡ t → nat_lt c d ≡ u → (a < b → c < d) → (c < d → a < b) → t ≡ u
same_less a b c d true true f g h k = refl
same_less a b c d false false f g h k = refl
same_less a b c d true false f g h k = let q : d ≤ c = ltb-false c d g in absurd (omega (arith, h (ltb-true a b f), q))
same_less a b c d false true f g h k = let q : b ≤ a = ltb-false a b f in absurd (omega (arith, k (ltb-true c d g), q))

-- l and m are the numbers below the highest bits s and t
compared : (p h l m a b : ℕ) (s t : Bool) → p ≡ 2 * h → l < h → m < h → a ≡ l + weight s * h → b ≡ m + weight t * h
    → nat_lt (l + weight t * h) (m + weight s * h) ≡ int_lt (cond s (negsuc (p - 1 - a)) (pos a)) (cond t (negsuc (p - 1 - b)) (pos b))
compared p h l m a b false false e f g i j = same_less (l + 0 * h) (m + 0 * h) a b (nat_lt (l + 0 * h) (m + 0 * h)) (nat_lt a b) refl refl (λ q. omega (arith, i, j, q)) (λ q. omega (arith, i, j, q))
compared p h l m a b true true e f g i j =
    same_less (l + 1 * h) (m + 1 * h) (p - 1 - b) (p - 1 - a) (nat_lt (l + 1 * h) (m + 1 * h)) (nat_lt (p - 1 - b) (p - 1 - a)) refl refl (λ q. omega (arith, e, f, g, i, j, q)) (λ q. omega (arith, e, f, g, i, j, q))
compared p h l m a b false true e f g i j = le-ltb (l + 1 * h) (m + 0 * h) (omega (arith, f, g))
compared p h l m a b true false e f g i j = lt-ltb (l + 0 * h) (m + 1 * h) (omega (arith, f, g))

pub signed_is : (n a : ℕ) (t : Bool) → nat_le (2 ^ n) (2 * a) ≡ t → signed n a ≡ cond t (negsuc (2 ^ n - 1 - a)) (pos a)
signed_is n a t e = ap (λ b. cond b (negsuc (2 ^ n - 1 - a)) (pos a)) e

pub less_is_signed : LessIsSigned
less_is_signed [] ys k e f = absurd (omega (arith, e))
less_is_signed (x ∷ xs) [] k e f = absurd (omega (arith, f))
less_is_signed (x ∷ xs) (y ∷ ys) k e f =
    let m : length xs ≡ k = omega (arith, e) in
    let n : length ys ≡ k = omega (arith, f) in
    let same : length xs ≡ length ys = m ∙ sym n in
    let w : 2 ^ suc k ≡ 2 * 2 ^ k = omega (arith, pow-suc 2 k) in
    let lx : low x xs < 2 ^ k = subst (λ j. low x xs < 2 ^ j) m (low_small x xs) in
    let ly : low y ys < 2 ^ k = subst (λ j. low y ys < 2 ^ j) n (low_small y ys) in
    let ax : number (x ∷ xs) ≡ low x xs + weight (top x xs) * 2 ^ k = number_parts x xs ∙ ap (λ j. low x xs + weight (top x xs) * 2 ^ j) m in
    let ay : number (y ∷ ys) ≡ low y ys + weight (top y ys) * 2 ^ k = number_parts y ys ∙ ap (λ j. low y ys + weight (top y ys) * 2 ^ j) n in
    let ex : number (with_top (x ∷ xs) (y ∷ ys)) ≡ low x xs + weight (top y ys) * 2 ^ k = exchanged x xs y ys same ∙ ap (λ j. low x xs + weight (top y ys) * 2 ^ j) m in
    let ey : number (with_top (y ∷ ys) (x ∷ xs)) ≡ low y ys + weight (top x xs) * 2 ^ k = exchanged y ys x xs (sym same) ∙ ap (λ j. low y ys + weight (top x xs) * 2 ^ j) n in
    let sx = negative_is (2 ^ suc k) (2 ^ k) (low x xs) (number (x ∷ xs)) (top x xs) _ refl w lx ax in
    let sy = negative_is (2 ^ suc k) (2 ^ k) (low y ys) (number (y ∷ ys)) (top y ys) _ refl w ly ay in
    less_is_borrowed (with_top (x ∷ xs) (y ∷ ys)) (with_top (y ∷ ys) (x ∷ xs)) (exchanged_length (x ∷ xs) (y ∷ ys) (ap suc same) ∙ ap suc same ∙ sym (exchanged_length (y ∷ ys) (x ∷ xs) (ap suc (sym same))))
    ∙ ap (λ v. nat_lt v (number (with_top (y ∷ ys) (x ∷ xs)))) ex ∙ ap (λ v. nat_lt (low x xs + weight (top y ys) * 2 ^ k) v) ey
    ∙ compared (2 ^ suc k) (2 ^ k) (low x xs) (low y ys) (number (x ∷ xs)) (number (y ∷ ys)) (top x xs) (top y ys) w lx ly ax ay
    ∙ sym (ap (λ v. int_lt v (signed (suc k) (number (y ∷ ys)))) (signed_is (suc k) (number (x ∷ xs)) (top x xs) sx) ∙ ap (λ v. int_lt (cond (top x xs) (negsuc (2 ^ suc k - 1 - number (x ∷ xs))) (pos (number (x ∷ xs)))) v) (signed_is (suc k) (number (y ∷ ys)) (top y ys) sy))
