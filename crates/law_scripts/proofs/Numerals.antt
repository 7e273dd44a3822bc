-- The digits of a number, and the number that digits stand for.
use Rattle.std.proofs.Common.{◌≡◌, ℕ, zero, suc, ◌+◌, ◌-◌, ◌*◌, ◌/◌, ◌%◌, ◌^◌, ◌<◌, ◌≤◌, Bool, true, false, cond, List, [], ◌∷◌, refl, sym, ap, ◌∙◌, arith}
use Rattle.std.specs.Prelude.{nat_eq, nat_lt}
use Rattle.std.specs.Fmt.{digits, digits_onto, digit_glyph}
use Rattle.std.proofs.lemmas.Bool.{eqb-true, ltb-false}
use Rattle.std.proofs.lemmas.Nat.{pow-add}
use Rattle.std.proofs.Math.Nat.{pow-suc, div-eq_of_lt, mul-le-mul_left}
use Rattle.law_scripts.specs.Numerals.{numeral, NumeralsDiffer, NumeralsArePrinted}

-- the number that digits behind a number stand for
unfoldable pub value : ℕ → List ℕ → ℕ
value n [] = n
value n (d ∷ ds) = value (n * 10 + (d - 48)) ds

glyph : (d : ℕ) → d < 10 → digit_glyph false d - 48 ≡ d
glyph d h = go (nat_lt d 10) refl
  where
    go : (b : Bool) → nat_lt d 10 ≡ b → cond b (48 + d) (cond false (55 + d) (87 + d)) - 48 ≡ d
    go true e = omega arith
    go false e = let k = ltb-false d 10 e in omega arith

pub reads : (k n : ℕ) (ds : List ℕ) → n < 10 ^ k → value 0 (digits_onto k 10 false n ds) ≡ value n ds
unfolding value
reads zero n ds h = let e : n ≡ 0 = omega arith in rw e
reads (suc k) n ds h = go (nat_eq (n / 10) 0) refl (λ less. reads k (n / 10) (digit_glyph false (n % 10) ∷ ds) less)
  where
    small : n % 10 < 10
    small = omega arith

    one : (g : ℕ) → g - 48 ≡ n % 10 → (n / 10) * 10 + (g - 48) ≡ n
    one g e = rw e (omega arith)

    go : (b : Bool) → nat_eq (n / 10) 0 ≡ b
        → (n / 10 < 10 ^ k → value 0 (digits_onto k 10 false (n / 10) (digit_glyph false (n % 10) ∷ ds)) ≡ value (n / 10) (digit_glyph false (n % 10) ∷ ds))
        → value 0 (cond b (digit_glyph false (n % 10) ∷ ds) (digits_onto k 10 false (n / 10) (digit_glyph false (n % 10) ∷ ds))) ≡ value n ds
    go true e again =
        let z = eqb-true (n / 10) 0 e in
        let f = glyph (n % 10) small in
        ap (λ m. value m ds) (first (digit_glyph false (n % 10)) f z)
      where
        first : (g : ℕ) → g - 48 ≡ n % 10 → n / 10 ≡ 0 → 0 * 10 + (g - 48) ≡ n
        first g f z = omega arith
    go false e again = again less ∙ ap (λ m. value m ds) (one (digit_glyph false (n % 10)) (glyph (n % 10) small))
      where
        less : n / 10 < 10 ^ k
        less = let p = pow-suc 10 k in omega arith

above : (q : ℕ) → suc q ≤ 10 ^ q
above zero = omega arith
above (suc q) = let h = above q in let p = pow-suc 10 q in omega arith

pub enough : (n : ℕ) → n < 10 ^ (64 + n / 10 ^ 64)
enough n = over n (n / 10 ^ 64) (omega arith)
  where
    over : (n q : ℕ) → n < 10 ^ 64 * suc q → n < 10 ^ (64 + q)
    over n q h = let p = pow-add 10 64 q in let b = mul-le-mul_left (10 ^ 64) (above q) in rw p (omega arith)

pub back : (n : ℕ) → value 0 (numeral n) ≡ n
unfolding value
back n = reads (64 + n / 10 ^ 64) n [] (enough n)

pub numerals_differ : NumeralsDiffer
numerals_differ m n e = sym (back m) ∙ ap (value 0) e ∙ back n

pub numerals_are_printed : NumeralsArePrinted
unfolding digits
numerals_are_printed n h = let e : n / 10 ^ 64 ≡ 0 = div-eq_of_lt h in ap (λ q. digits_onto (64 + q) 10 false n []) e
