-- Names made of letters and a number, and the number that stands in them.
use Rattle.std.proofs.Common.{◌≡◌, ℕ, zero, suc, ◌+◌, ◌-◌, ◌*◌, ◌/◌, ◌%◌, ◌^◌, ◌<◌, Bool, true, false, ◌&&◌, cond, List, [], ◌∷◌, refl, ap, ◌∙◌, subst, arith}
use Rattle.std.specs.Prelude.{codes, nat_eq}
use Rattle.std.specs.Fmt.{digits_onto, digit_glyph}
use Rattle.std.specs.List.{list_all, fold}
use Rattle.std.proofs.lemmas.Bool.{and_parts, and_from, cond-true, agree_below_at}
use Rattle.std.proofs.lemmas.List.{append_cancel_left}
use Rattle.law_texts.specs.Lexicon.{is_digit, some_all, is_symbol_byte, is_plain_byte, number_in, digit_value}
use Rattle.law_scripts.specs.Numerals.{numeral, NumberedNames}
use Rattle.law_scripts.specs.Written.{is_name}
use Rattle.law_scripts.proofs.Numerals.{back, value, numerals_differ}

pub some_list : (p : ℕ → Bool) (ds : List ℕ) → some_all p ds ≡ true → list_all p ds ≡ true
some_list p [] h = refl
some_list p (d ∷ ds) h = h

-- digits that are put before digits
digits_pass : (p : ℕ → Bool) → ((d : ℕ) → d < 10 → p (digit_glyph false d) ≡ true) → (k n : ℕ) (ds : List ℕ) → list_all p ds ≡ true → some_all p (digits_onto (suc k) 10 false n ds) ≡ true
digits_pass p g zero n ds h = go (nat_eq (n / 10) 0)
  where
    one : p (digit_glyph false (n % 10)) ≡ true
    one = g (n % 10) (omega arith)

    go : (b : Bool) → some_all p (cond b (digit_glyph false (n % 10) ∷ ds) (digits_onto zero 10 false (n / 10) (digit_glyph false (n % 10) ∷ ds))) ≡ true
    go true = and_from (p (digit_glyph false (n % 10))) (list_all p ds) one h
    go false = and_from (p (digit_glyph false (n % 10))) (list_all p ds) one h
digits_pass p g (suc k) n ds h = go (nat_eq (n / 10) 0) (digits_pass p g k (n / 10) (digit_glyph false (n % 10) ∷ ds) (and_from (p (digit_glyph false (n % 10))) (list_all p ds) one h))
  where
    one : p (digit_glyph false (n % 10)) ≡ true
    one = g (n % 10) (omega arith)

    go : (b : Bool) → some_all p (digits_onto (suc k) 10 false (n / 10) (digit_glyph false (n % 10) ∷ ds)) ≡ true
        → some_all p (cond b (digit_glyph false (n % 10) ∷ ds) (digits_onto (suc k) 10 false (n / 10) (digit_glyph false (n % 10) ∷ ds))) ≡ true
    go true again = and_from (p (digit_glyph false (n % 10))) (list_all p ds) one h
    go false again = again

numeral_passes : (p : ℕ → Bool) → ((d : ℕ) → d < 10 → p (digit_glyph false d) ≡ true) → (n : ℕ) → some_all p (numeral n) ≡ true
numeral_passes p g n = subst (λ k. some_all p (digits_onto k 10 false n []) ≡ true) (more (n / 10 ^ 64)) (digits_pass p g (63 + n / 10 ^ 64) n [] refl)
  where
    more : (q : ℕ) → suc (63 + q) ≡ 64 + q
    more q = omega arith

pub numeral_digits : (n : ℕ) → some_all is_digit (numeral n) ≡ true
numeral_digits n = numeral_passes is_digit (λ d h. agree_below_at (λ m. is_digit (digit_glyph false m)) (λ m. true) 10 d refl h) n

abbrev pub suits : ℕ → Bool
suits b = is_symbol_byte b && is_plain_byte b

pub numeral_suits : (n : ℕ) → list_all suits (numeral n) ≡ true
numeral_suits n = some_list suits (numeral n) (numeral_passes suits (λ d h. agree_below_at (λ m. suits (digit_glyph false m)) (λ m. true) 10 d refl h) n)

pub each_part : (p q : ℕ → Bool) (bs : List ℕ) → list_all (λ b. p b && q b) bs ≡ true → (list_all p bs ≡ true) × (list_all q bs ≡ true)
each_part p q [] h = (refl, refl)
each_part p q (b ∷ bs) h =
    let x = and_parts (p b && q b) (list_all (λ c. p c && q c) bs) h in
    let y = and_parts (p b) (q b) x.0 in
    let z = each_part p q bs x.1 in
    (and_from (p b) (list_all p bs) y.0 z.0, and_from (q b) (list_all q bs) y.1 z.1)

pub both_all : (bs : List ℕ) → list_all suits bs ≡ true → (list_all is_symbol_byte bs && list_all is_plain_byte bs) ≡ true
both_all bs h = let p = each_part is_symbol_byte is_plain_byte bs h in and_from (list_all is_symbol_byte bs) (list_all is_plain_byte bs) p.0 p.1

pub bv_name : (n : ℕ) → is_name (98 ∷ 118 ∷ numeral n) ≡ true
bv_name n = both_all (numeral n) (numeral_suits n)

-- ---- the number that digits stand for

folds : (n : ℕ) (ds : List ℕ) → list_all is_digit ds ≡ true → fold (λ m d. m * 10 + digit_value d) n ds ≡ value n ds
unfolding value
folds n [] h = refl
folds n (d ∷ ds) h =
    let p = and_parts (is_digit d) (list_all is_digit ds) h in
    let e : digit_value d ≡ d - 48 = cond-true (is_digit d) _ _ p.0 in
    ap (λ v. fold (λ m c. m * 10 + digit_value c) (n * 10 + v) ds) e ∙ folds (n * 10 + (d - 48)) ds p.1

pub numeral_number : (n : ℕ) → number_in 10 (numeral n) ≡ n
numeral_number n = folds 0 (numeral n) (some_list is_digit (numeral n) (numeral_digits n)) ∙ back n

pub numbered_names : NumberedNames
numbered_names m n = (both_all (numeral m) (numeral_suits m), λ e. numerals_differ m n (append_cancel_left (codes "t") (numeral m) (numeral n) e))
