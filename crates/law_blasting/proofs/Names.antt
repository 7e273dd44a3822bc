-- The names of new variables differ.
use Rattle.std.proofs.Common.{◌≡◌, ℕ, zero, suc, ◌≤◌, Bool, true, false, cond, List, [], ◌∷◌, ◌++◌, refl, sym, ap, ◌∙◌, arith}
use Rattle.std.specs.Prelude.{bytes_eq, codes, ◌==◌, nat_le}
use Rattle.std.specs.List.{AllByRecursion, list_all}
use Rattle.std.specs.Cmp.{first_so, second_so}
use Rattle.std.proofs.lemmas.Bool.{leb-true}
use Rattle.std.proofs.lemmas.Bool.Decides.{Decides-eqb}
use Rattle.std.proofs.lemmas.List.{append_cancel_left}
use Rattle.std.proofs.lemmas.Slice.Eq.{bytes_eq-Decides}
use Rattle.law_texts.specs.Lexicon.{is_digit}
use Rattle.law_terms.specs.Plain.{PlainType, BitVecType, BoolType}
use Rattle.law_scripts.specs.Numerals.{numeral}
use Rattle.law_scripts.proofs.Numbers.{some_list, numeral_digits}
use Rattle.law_scripts.proofs.Numerals.{numerals_differ}
use Rattle.law_blasting.specs.Blasted.{variable_name, bit_name, bit_names, new_names}

-- what stands before the first "_"
front : List ℕ → List ℕ
front [] = []
front (c ∷ cs) = cond (c == 95) [] (c ∷ front cs)

digit_is : (d : ℕ) (t : Bool) → is_digit d ≡ true → (d == 95) ≡ t → t ≡ false
digit_is d false h e = refl
digit_is d true h e = let q : d ≤ 57 = leb-true d 57 (second_so (nat_le 48 d) (nat_le d 57) h) in absurd (omega (arith, q, (Decides-eqb d 95).0 e))

digits_alone : (ds : List ℕ) → list_all is_digit ds ≡ true → front ds ≡ ds
unfolding front
digits_alone [] h = refl
digits_alone (d ∷ ds) h =
    ap (λ t. cond t [] (d ∷ front ds)) (digit_is d (d == 95) (first_so (is_digit d) (list_all is_digit ds) h) refl) ∙ ap (λ cs. d ∷ cs) (digits_alone ds (second_so (is_digit d) (list_all is_digit ds) h))

digits_before : (ds rest : List ℕ) → list_all is_digit ds ≡ true → front (ds ++ 95 ∷ rest) ≡ ds
unfolding front
digits_before [] rest h = refl
digits_before (d ∷ ds) rest h =
    ap (λ t. cond t [] (d ∷ front (ds ++ 95 ∷ rest))) (digit_is d (d == 95) (first_so (is_digit d) (list_all is_digit ds) h) refl) ∙ ap (λ cs. d ∷ cs) (digits_before ds rest (second_so (is_digit d) (list_all is_digit ds) h))

all_digits : (n : ℕ) → list_all is_digit (numeral n) ≡ true
all_digits n = some_list is_digit (numeral n) (numeral_digits n)

-- the number of an old variable stands in the names of the new ones
pub HasNumber : ℕ → List ℕ → Type 0
HasNumber k name = front name ≡ variable_name k

pub variable_has : (k : ℕ) → HasNumber k (variable_name k)
unfolding front HasNumber
variable_has k = ap (λ cs. 118 ∷ cs) (digits_alone (numeral k) (all_digits k))

pub bit_has : (k i : ℕ) → HasNumber k (bit_name k i)
unfolding front HasNumber
bit_has k i = ap (λ cs. 118 ∷ cs) (digits_before (numeral k) (numeral i) (all_digits k))

bits_have : (k i n : ℕ) → AllByRecursion (HasNumber k) (bit_names k i n)
bits_have k i zero = tt
bits_have k i (suc n) = (bit_has k i, bits_have k (suc i) n)

pub names_have : (k : ℕ) (t : PlainType) → AllByRecursion (HasNumber k) (new_names k t)
names_have k BoolType = (variable_has k, tt)
names_have k (BitVecType n) = bits_have k 0 n
names_have k t = tt

-- ---- names of two variables

apart : (m n : List ℕ) → (m ≡ n → ⊥) → bytes_eq m n ≡ false
apart m n f = by (bytes_eq m n) refl
  where
    by : (t : Bool) → bytes_eq m n ≡ t → t ≡ false
    by false e = refl
    by true e = absurd (f ((bytes_eq-Decides m n).0 e))

pub numbers_differ : (j k : ℕ) (m n : List ℕ) → HasNumber j m → HasNumber k n → (j ≡ k → ⊥) → bytes_eq m n ≡ false
unfolding HasNumber
numbers_differ j k m n h g f = apart m n (λ e. f (numerals_differ j k (append_cancel_left (codes "v") (numeral j) (numeral k) (sym h ∙ ap front e ∙ g))))

pub none_named : (j k : ℕ) (m : List ℕ) (names : List (List ℕ)) → HasNumber j m → AllByRecursion (HasNumber k) names → (j ≡ k → ⊥) → AllByRecursion (λ n. bytes_eq m n ≡ false) names
none_named j k m [] h g f = tt
none_named j k m (n ∷ names) h g f = (numbers_differ j k m n h g.0 f, none_named j k m names h g.1 f)

-- ---- names of two bits of one variable

pub places_differ : (k i j : ℕ) → (i ≡ j → ⊥) → bytes_eq (bit_name k i) (bit_name k j) ≡ false
places_differ k i j f = apart (bit_name k i) (bit_name k j) (λ e. f (numerals_differ i j (append_cancel_left (codes "_") (numeral i) (numeral j) (append_cancel_left (variable_name k) (codes "_" ++ numeral i) (codes "_" ++ numeral j) e))))
