-- Numbers in names.
use Rattle.std.proofs.Common.{◌≡◌, ℕ, suc, ◌+◌, ◌-◌, ◌*◌, true, false, List, [], ◌∷◌, ◌++◌, refl, sym, ap, ◌∙◌, arith}
use Rattle.std.specs.Prelude.{take}
use Rattle.std.specs.List.{fold, list_all, prefix_len, take_while}
use Rattle.std.proofs.lemmas.Bool.{and_parts, and_from, cond-true, cond-false}
use Rattle.std.proofs.lemmas.List.{append-nil}
use Rattle.std.proofs.lemmas.List.Folds.{list_all-append}
use Rattle.law_texts.specs.Lexicon.{is_digit, digit_value, number_in, some_all}
use Rattle.law_scripts.specs.Written.{is_name}
use Rattle.law_scripts.proofs.Numerals.{back, value}
use Rattle.law_scripts.proofs.Numbers.{some_list, numeral_digits, suits, both_all}
use Rattle.law_lines.specs.Spelling.{numeral}
use Rattle.law_lines.specs.Fit.{first}

pub t_name : (bs : List ℕ) → list_all suits bs ≡ true → is_name (116 ∷ bs) ≡ true
t_name bs h = both_all bs h

pub f_name : (bs : List ℕ) → list_all suits bs ≡ true → is_name (102 ∷ bs) ≡ true
f_name bs h = both_all bs h

pub e_name : (bs : List ℕ) → list_all suits bs ≡ true → is_name (69 ∷ bs) ≡ true
e_name bs h = both_all bs h

pub r_name : (bs : List ℕ) → list_all suits bs ≡ true → is_name (82 ∷ bs) ≡ true
r_name bs h = both_all bs h

pub suits_append : (xs ys : List ℕ) → list_all suits xs ≡ true → list_all suits ys ≡ true → list_all suits (xs ++ ys) ≡ true
suits_append xs ys h k = list_all-append suits xs ys ∙ and_from (list_all suits xs) (list_all suits ys) h k

-- the number that a number and the digits at the front of a text stand for
abbrev leading : ℕ → List ℕ → ℕ
leading n text = fold (λ m d. m * 10 + digit_value d) n (take_while is_digit text)

leads : (n : ℕ) (ds tail : List ℕ) → list_all is_digit ds ≡ true → is_digit (first tail) ≡ false → leading n (ds ++ tail) ≡ value n ds
unfolding value
leads n [] [] h k = refl
leads n [] (c ∷ tail) h k = ap (λ i. fold (λ m d. m * 10 + digit_value d) n (take i (c ∷ tail))) (cond-false (is_digit c) (1 + prefix_len is_digit tail) 0 k)
leads n (d ∷ ds) tail h k =
    let p = and_parts (is_digit d) (list_all is_digit ds) h in
    let longer : prefix_len is_digit (d ∷ (ds ++ tail)) ≡ suc (prefix_len is_digit (ds ++ tail)) = cond-true (is_digit d) (1 + prefix_len is_digit (ds ++ tail)) 0 p.0 ∙ one_more (prefix_len is_digit (ds ++ tail)) in
    let digit : digit_value d ≡ d - 48 = cond-true (is_digit d) (d - 48) _ p.0 in
    ap (λ i. fold (λ m b. m * 10 + digit_value b) n (take i (d ∷ (ds ++ tail)))) longer
    ∙ ap (λ x. leading (n * 10 + x) (ds ++ tail)) digit ∙ leads (n * 10 + (d - 48)) ds tail p.1 k
  where
    one_more : (i : ℕ) → 1 + i ≡ suc i
    one_more i = omega arith

pub leads_numeral : (n : ℕ) (tail : List ℕ) → is_digit (first tail) ≡ false → number_in 10 (take_while is_digit (numeral n ++ tail)) ≡ n
leads_numeral n tail k = leads 0 (numeral n) tail (some_list is_digit (numeral n) (numeral_digits n)) k ∙ back n

pub leads_alone : (n : ℕ) → number_in 10 (take_while is_digit (numeral n)) ≡ n
leads_alone n = ap (leading 0) (sym (append-nil (numeral n))) ∙ leads_numeral n [] refl

-- a drawn name has a digit behind its letter
pub digit_first : (n : ℕ) (tail : List ℕ) → is_digit (first (numeral n ++ tail)) ≡ true
digit_first n tail = go (numeral n) (numeral_digits n)
  where
    go : (ds : List ℕ) → some_all is_digit ds ≡ true → is_digit (first (ds ++ tail)) ≡ true
    go [] h = absurd cc
    go (d ∷ ds) h = (and_parts (is_digit d) (list_all is_digit ds) h).0
