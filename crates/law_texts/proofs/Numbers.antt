-- The number that decimal digits stand for, read from the left.
use Rattle.std.proofs.Common.{◌≡◌, ℕ, ◌+◌, ◌-◌, ◌*◌, ◌<◌, ◌≤◌, true, List, [], ◌∷◌, refl, arith, length, drop, get_or, rules}
use Rattle.std.specs.List.{fold, list_all}
use Rattle.std.proofs.Math.Seq.{drop-cons}
use Rattle.std.proofs.Math.Numerals.{add-one}
use Rattle.std.proofs.lemmas.List.Sums.{AllPass-from_list_all}
use Rattle.std.proofs.lemmas.Bool.{and_parts, cond-true, leb-true}
use Rattle.law_texts.specs.Characters.{is_digit}
use Rattle.std.proofs.lemmas.Str.Parse.{IsNumeralModel, numerals_by_fold}
use Rattle.law_texts.specs.Digits.{digit_value, is_numeral}

-- digits behind a number that is read already
abbrev pub from_digits : ℕ → List ℕ → ℕ
from_digits v ds = fold (λ n d. n * 10 + digit_value d) v ds

pub from_digits_grows : (v : ℕ) (ds : List ℕ) → v ≤ from_digits v ds
from_digits_grows v [] = omega arith
from_digits_grows v (d ∷ ds) = let e = from_digits_grows (v * 10 + digit_value d) ds in omega arith

pub digit_range : (b : ℕ) → is_digit b ≡ true → (48 ≤ b) × (b ≤ 57) × (digit_value b ≡ b - 48)
digit_range b h =
    let p = and_parts _ _ h in
    (leb-true 48 b p.0, leb-true b 57 p.1, cond-true (is_digit b) (b - 48) _ h)

pub digit_at : (ds : List ℕ) (i : ℕ) → list_all is_digit ds ≡ true → i < length ds → is_digit (get_or ds i 0) ≡ true
digit_at ds i h l = AllPass-from_list_all is_digit ds h i 0 l

-- one digit further
pub from_digits_more : (v i : ℕ) (ds : List ℕ) → i < length ds → from_digits v (drop i ds) ≡ from_digits (v * 10 + digit_value (get_or ds i 0)) (drop (i + 1) ds)
from_digits_more v i ds h = rw (drop-cons ds i 0 h, add-one i) refl

-- what the number is at least, one digit further
pub at_least : (v i n : ℕ) (ds : List ℕ) → i < length ds → from_digits v (drop i ds) ≡ n → v * 10 + digit_value (get_or ds i 0) ≤ n
at_least v i n ds h e =
    let grown = from_digits_grows (v * 10 + digit_value (get_or ds i 0)) (drop (i + 1) ds) in
    let more = from_digits_more v i ds h in
    omega arith

-- ---- numerals in the model of std

pub numeral_model : IsNumeralModel (λ ds. list_all is_digit ds ≡ true) (from_digits 0)
numeral_model = numerals_by_fold _ (search rules) from_digits (search rules)

-- digits, one or more, are a numeral
pub numeral_from : (ds : List ℕ) → 0 < length ds → list_all is_digit ds ≡ true → is_numeral ds ≡ true
numeral_from [] l h = absurd (omega arith)
numeral_from (d ∷ ds) l h = h
