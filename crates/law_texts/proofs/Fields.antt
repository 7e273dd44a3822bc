-- Numbers in a fixed count of digits.
use Rattle.std.proofs.Common.{lit<, ◌≡◌, ℕ, suc, zero, ◌+◌, ◌*◌, ◌/◌, ◌%◌, ◌^◌, ◌<◌, ◌≤◌, true, List, [], ◌∷◌, refl, sym, ap, ap₂, ◌∙◌, arith, length}
use Rattle.std.specs.List.{list_all}
use Rattle.std.proofs.Math.Nat.{pow-suc, pow-le-pow_right, div-add-mod, mod-lt, mod-eq_of_lt, mul-add-mod_self_right, mul-le-mul_right, div-lt_iff_lt-mul}
use Rattle.std.proofs.lemmas.Nat.{div-mul-add}
use Rattle.std.proofs.lemmas.Bool.{and_parts, and_from, le-leb}
use Rattle.law_texts.specs.Digits.{digit_value}
use Rattle.law_texts.specs.Characters.{is_digit}
use Rattle.law_texts.specs.Digits.{decimal_number, padded}
use Rattle.law_texts.proofs.Numbers.{digit_range, from_digits}

pub length-padded : (k n : ℕ) → length (padded k n) ≡ k
length-padded zero n = refl
length-padded (suc k) n = let e = length-padded k (n % 10 ^ k) in omega arith

ten_above : (k : ℕ) → 0 < 10 ^ k
ten_above zero = omega arith
ten_above (suc k) = let e = ten_above k in let p = pow-suc 10 k in omega arith

-- the first digit, and the number of the others
pub first_digit : (k n : ℕ) → n < 10 ^ suc k → (n / 10 ^ k < 10) × (n % 10 ^ k < 10 ^ k) × (n ≡ 10 ^ k * (n / 10 ^ k) + n % 10 ^ k)
first_digit k n h =
    let up = ten_above k in
    let h' : n < 10 * 10 ^ k = (let p = pow-suc 10 k in omega arith) in
    ((div-lt_iff_lt-mul up).1 h', mod-lt n up, sym (div-add-mod n (10 ^ k)))

digit_from : (d : ℕ) → d < 10 → is_digit (48 + d) ≡ true
digit_from d h = and_from _ _ (le-leb 48 (48 + d) (omega arith)) (le-leb (48 + d) 57 (omega arith))

value_from : (d : ℕ) → d < 10 → digit_value (48 + d) ≡ d
value_from d h = let r = digit_range (48 + d) (digit_from d h) in omega arith

pub padded_digits : (k n : ℕ) → n < 10 ^ k → list_all is_digit (padded k n) ≡ true
padded_digits zero n h = refl
padded_digits (suc k) n h =
    let f = first_digit k n h in
    and_from _ _ (digit_from (n / 10 ^ k) f.0) (padded_digits k (n % 10 ^ k) f.1)

place : (v q r t n u x : ℕ) → x ≡ q → n ≡ t * q + r → u ≡ t * 10 → (v * 10 + x) * t + r ≡ v * u + n
place v q r t n u x s e p = rw (s, e, p) (omega arith)

-- what digits in a fixed count add to the number before them
pub from_padded : (k n v : ℕ) → n < 10 ^ k → from_digits v (padded k n) ≡ v * 10 ^ k + n
from_padded zero n v h = omega arith
from_padded (suc k) n v h =
    let f = first_digit k n h in
    let e = from_padded k (n % 10 ^ k) (v * 10 + digit_value (48 + n / 10 ^ k)) f.1 in
    e ∙ place v (n / 10 ^ k) (n % 10 ^ k) (10 ^ k) n (10 ^ suc k) _ (value_from (n / 10 ^ k) f.0) f.2 (pow-suc 10 k)

pub number-padded : (k n : ℕ) → n < 10 ^ k → decimal_number (padded k n) ≡ n
number-padded k n h = from_padded k n 0 h ∙ omega arith

-- ---- back from the digits

shift_place : (v x t u n a b : ℕ) → a ≡ (v * 10 + x) * t + n → b ≡ (0 + x) * t + n → u ≡ t * 10 → a ≡ v * u + b
shift_place v x t u n a b e g p = rw (e, g, p) (omega arith)

shifted : (v : ℕ) (ds : List ℕ) → from_digits v ds ≡ v * 10 ^ length ds + decimal_number ds
shifted v [] = omega arith
shifted v (d ∷ ds) =
    let e = shifted (v * 10 + digit_value d) ds in
    let g = shifted (0 * 10 + digit_value d) ds in
    shift_place v (digit_value d) (10 ^ length ds) (10 ^ suc (length ds)) (decimal_number ds) _ _ e g (pow-suc 10 (length ds))

below_place : (x t n u a : ℕ) → x ≤ 9 → n < t → a ≡ x * t + n → u ≡ t * 10 → a < u
below_place x t n u a h l e p = let m = mul-le-mul_right t h in omega arith

-- the first digit counts most
first_of_number : (d : ℕ) (ds : List ℕ) → decimal_number (d ∷ ds) ≡ digit_value d * 10 ^ length ds + decimal_number ds
first_of_number d ds = let g = shifted (0 * 10 + digit_value d) ds in omega arith

pub number_below : (ds : List ℕ) → list_all is_digit ds ≡ true → decimal_number ds < 10 ^ length ds
number_below [] h = omega arith
number_below (d ∷ ds) h =
    let a = and_parts (is_digit d) (list_all is_digit ds) h in
    let r = digit_range d a.0 in
    let b = number_below ds a.1 in
    below_place (digit_value d) (10 ^ length ds) (decimal_number ds) (10 ^ suc (length ds)) (decimal_number (d ∷ ds)) (omega arith) b (first_of_number d ds) (pow-suc 10 (length ds))

pub padded-number : (ds : List ℕ) → list_all is_digit ds ≡ true → padded (length ds) (decimal_number ds) ≡ ds
padded-number [] h = refl
padded-number (d ∷ ds) h =
    let a = and_parts (is_digit d) (list_all is_digit ds) h in
    let r = digit_range d a.0 in
    let b = number_below ds a.1 in
    let e = first_of_number d ds in
    let q = ap (λ (n : ℕ). n / 10 ^ length ds) e ∙ div-mul-add (digit_value d) (10 ^ length ds) (decimal_number ds) b in
    let m = ap (λ (n : ℕ). n % 10 ^ length ds) e ∙ mul-add-mod_self_right (digit_value d) (10 ^ length ds) (decimal_number ds) ∙ mod-eq_of_lt b in
    let first = ap (λ (n : ℕ). 48 + n) q ∙ omega arith in
    ap₂ (λ (x : ℕ) (xs : List ℕ). x ∷ xs) first (ap (λ (n : ℕ). padded (length ds) n) m ∙ padded-number ds a.1)

-- what is multiplied by a power of ten does not fall
pub at_least_itself : (n k : ℕ) → n ≤ n * 10 ^ k
at_least_itself n k = let up = ten_above k in grind arith

-- four digits write a small number
pub short_number : (ds : List ℕ) → list_all is_digit ds ≡ true → length ds ≤ 4 → decimal_number ds < 2 ^ 64
short_number ds h l = let b = number_below ds h in let p : 10 ^ length ds ≤ 10 ^ 4 = pow-le-pow_right (lit< tt) l in omega arith
