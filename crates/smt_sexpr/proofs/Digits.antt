-- The number that digits of a base stand for, read from the left.
use Rattle.std.proofs.Common.{◌≡◌, ℕ, zero, suc, ◌+◌, ◌*◌, ◌^◌, ◌<◌, ◌≤◌, true, List, [], ◌∷◌, refl, sym, ap, ◌∙◌, arith, length, drop, get_or}
use Rattle.std.specs.Prelude.{nat_lt}
use Rattle.std.specs.List.{fold, list_all}
use Rattle.std.proofs.Math.Seq.{drop-cons}
use Rattle.std.proofs.Math.Nat.{mul-le-mul_left, mul-le-mul_right, pow-suc, pow-zero, pow-le-pow_right}
use Rattle.std.proofs.lemmas.Nat.{pow-add}
use Rattle.std.proofs.Math.Numerals.{add-one}
use Rattle.std.proofs.lemmas.Bool.{and_parts, and_from}
use Rattle.std.proofs.lemmas.Bool.Decides.{nat_tests}
use Rattle.law_texts.specs.Characters.{is_hexadecimal}
use Rattle.law_texts.specs.Digits.{digit_value, number_in}
use Rattle.law_texts.specs.Lexicon.{is_binary}
use Rattle.smt_sexpr.specs.Literals.{AreDigits}

-- digits behind a number that is read already
abbrev pub from_in : ℕ → ℕ → List ℕ → ℕ
from_in base v ds = fold (λ n d. n * base + digit_value d) v ds

grows : (base v : ℕ) (ds : List ℕ) → 1 ≤ base → v ≤ from_in base v ds
grows base v [] h = omega arith
grows base v (d ∷ ds) h =
    let e = grows base (v * base + digit_value d) ds h in
    let m : v * 1 ≤ v * base = mul-le-mul_left v h in
    omega arith

-- one digit further
pub more : (base v i : ℕ) (ds : List ℕ) → i < length ds → from_in base v (drop i ds) ≡ from_in base (v * base + digit_value (get_or ds i 0)) (drop (i + 1) ds)
more base v i ds h = rw (drop-cons ds i 0 h, add-one i) refl

-- what the number is at least, one digit further
pub at_least : (base v i n : ℕ) (ds : List ℕ) → 1 ≤ base → i < length ds → from_in base v (drop i ds) ≡ n → v * base + digit_value (get_or ds i 0) ≤ n
at_least base v i n ds one h e =
    let grown = grows base (v * base + digit_value (get_or ds i 0)) (drop (i + 1) ds) one in
    let next = more base v i ds h in
    omega arith

-- a number below the base to the count of its digits
below_from : (base v : ℕ) (ds : List ℕ) → AreDigits base ds → from_in base v ds + 1 ≤ (v + 1) * base ^ length ds
below_from base v [] h =
    let e : (v + 1) * base ^ length {A = ℕ} [] ≡ v + 1 = ap (λ n. (v + 1) * n) (pow-zero base) ∙ omega arith in
    omega arith
below_from base v (d ∷ ds) h =
    let p = and_parts (nat_lt (digit_value d) base) (list_all (λ x. nat_lt (digit_value x) base) ds) h in
    let small : digit_value d < base = grind (arith, nat_tests, p.0) in
    let e = below_from base (v * base + digit_value d) ds p.1 in
    let m : (v * base + digit_value d + 1) * base ^ length ds ≤ ((v + 1) * base) * base ^ length ds = mul-le-mul_right (base ^ length ds) (omega arith) in
    let q : base ^ length (d ∷ ds) ≡ base ^ length ds * base = pow-suc base (length ds) in
    let r : (v + 1) * base ^ length (d ∷ ds) ≡ ((v + 1) * base) * base ^ length ds = ap (λ n. (v + 1) * n) q ∙ (omega arith) in
    omega arith

pub below : (base : ℕ) (ds : List ℕ) → AreDigits base ds → number_in base ds < base ^ length ds
below base ds h = let e = below_from base 0 ds h in omega arith

pub hexadecimal_digits : (ds : List ℕ) → list_all is_hexadecimal ds ≡ true → AreDigits 16 ds
hexadecimal_digits [] h = refl
hexadecimal_digits (d ∷ ds) h =
    let p = and_parts (is_hexadecimal d) (list_all is_hexadecimal ds) h in
    and_from (nat_lt (digit_value d) 16) (list_all (λ x. nat_lt (digit_value x) 16) ds) (one d p.0) (hexadecimal_digits ds p.1)
  where
    one : (x : ℕ) → is_hexadecimal x ≡ true → nat_lt (digit_value x) 16 ≡ true
    one x e = grind (arith, nat_tests)

pub binary_digits : (ds : List ℕ) → list_all is_binary ds ≡ true → AreDigits 2 ds
binary_digits [] h = refl
binary_digits (d ∷ ds) h =
    let p = and_parts (is_binary d) (list_all is_binary ds) h in
    and_from (nat_lt (digit_value d) 2) (list_all (λ x. nat_lt (digit_value x) 2) ds) (one d p.0) (binary_digits ds p.1)
  where
    one : (x : ℕ) → is_binary x ≡ true → nat_lt (digit_value x) 2 ≡ true
    one x e = grind (arith, nat_tests)

-- a number of at most five digits in base 16
pub short_number : (ds : List ℕ) → length ds < 6 → list_all is_hexadecimal ds ≡ true → number_in 16 ds < 2 ^ 20
short_number ds l h =
    let b = below 16 ds (hexadecimal_digits ds h) in
    let five : length ds ≤ 5 = omega arith in
    let some : 0 < 16 = omega arith in
    let m : 16 ^ length ds ≤ 16 ^ 5 = pow-le-pow_right some five in
    omega arith

pow_pow : (bits k : ℕ) → (2 ^ bits) ^ k ≡ 2 ^ (bits * k)
pow_pow bits zero = pow-zero (2 ^ bits) ∙ sym (ap (λ n. 2 ^ n) (let e : bits * 0 ≡ 0 = omega arith in e))
pow_pow bits (suc k) = pow-suc (2 ^ bits) k ∙ ap (λ n. n * 2 ^ bits) (pow_pow bits k) ∙ sym (pow-add 2 (bits * k) bits) ∙ ap (λ n. 2 ^ n) (let e : bits * k + bits ≡ bits * suc k = omega arith in e)

-- the number of a literal is below 2 to its width
pub literal_below : (base bits v w : ℕ) (ds : List ℕ) → base ≡ 2 ^ bits → AreDigits base ds → v ≡ number_in base ds → w ≡ bits * length ds → v < 2 ^ w
literal_below base bits v w ds e h f g =
    let b = below base ds h in
    let p : base ^ length ds ≡ 2 ^ w = ap (λ n. n ^ length ds) e ∙ pow_pow bits (length ds) ∙ ap (λ n. 2 ^ n) (sym g) in
    omega arith
