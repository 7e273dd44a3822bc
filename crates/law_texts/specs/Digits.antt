-- Digits and signs, and the numbers that they stand for: in the numerals of scripts (chapter 3, Lexicon) and in the texts of
-- extension values.
use Rattle.std.specs.Prelude.{ℕ, zero, suc, ◌+◌, ◌-◌, ◌*◌, ◌/◌, ◌%◌, ◌^◌, ℤ, pos, neg_ℤ, Bool, true, false, ◌&&◌, if◌then◌else◌, nat_le}
use Rattle.std.specs.Prelude.{codes, List, [], ◌∷◌}
use Rattle.std.specs.List.{fold, list_all}
use Rattle.law_texts.specs.Characters.{is_digit}

-- at least one, and each passes
abbrev pub some_all : (ℕ → Bool) → List ℕ → Bool
some_all test [] = false
some_all test (b ∷ bs) = test b && list_all test bs

-- at least one decimal digit, and nothing else
abbrev pub is_numeral : List ℕ → Bool
is_numeral digits = some_all is_digit digits

-- the value of a digit of a base up to 16, capital or small
abbrev pub digit_value : ℕ → ℕ
digit_value d = if is_digit d then (d - 48) else (if nat_le 97 d then (d - 87) else (d - 55))

-- the number that digits of a base stand for, the highest first
abbrev pub number_in : ℕ → List ℕ → ℕ
number_in base digits = fold (λ n d. n * base + digit_value d) 0 digits

-- the number that decimal digits stand for
abbrev pub decimal_number : List ℕ → ℕ
decimal_number digits = number_in 10 digits

-- a number below 10 to the k, in k digits
abbrev pub padded : ℕ → ℕ → List ℕ
padded zero n = []
padded (suc k) n = (48 + n / 10 ^ k) ∷ padded k (n % 10 ^ k)

-- a minus where the number is negative
abbrev pub minus_if : Bool → List ℕ
minus_if true = codes "-"
minus_if false = []

-- the number with its sign
abbrev pub signed_number : Bool → ℕ → ℤ
signed_number true n = neg_ℤ (pos n)
signed_number false n = pos n
