-- The digits of a prefix.
use Rattle.std.proofs.Common.{◌≡◌, ℕ, ◌<◌, Bool, true, false, ◌||◌, List, length, get_or, Result, Ok, decimal, refl, sym, ap, ◌∙◌, arith, inl, inr, eqb-true, eq-eqb}
use Rattle.std.specs.Prelude.{nat_lt, ◌==◌}
use Rattle.std.specs.Str.Parse.{ParsesUnsigned}
use Rattle.std.proofs.lemmas.Bool.{eqb-false, cases_lt, both_ways, and_parts, lt-ltb}
use Rattle.std.proofs.lemmas.Result.{OkIff-at_ok}
use Rattle.std.proofs.lemmas.Fmt.{decimal_digit, first_decimal, decimal_is_IsNumeral, decimal-digits_value, parse-decimal}
use Rattle.std.proofs.lemmas.Str.Parse.{numerals_by_value, tells_digits, digit_at, without_leading_plus_none}
use Rattle.smt_ext.specs.IpReader.{is_padded}

pub or_false : (a b : Bool) → a || b ≡ false → (a ≡ false) × (b ≡ false)
or_false true b e = absurd cc
or_false false b e = (refl, e)

pub or_true : {A : Type 0} (a b : Bool) → a || b ≡ true → (a ≡ true → A) → (b ≡ true → A) → A
or_true true b e f g = f refl
or_true false b e f g = g e

-- digits that `parse` takes and that are not padded are those that `decimal` writes
pub plain_is_decimal : {E : Type 0} (bs : List ℕ) (r : Result ℕ E) (n : ℕ) → is_padded bs ≡ false → ParsesUnsigned 8 10 bs r → r ≡ Ok n → bs ≡ decimal n
plain_is_decimal bs r n plain parsed ok =
    let (no_sign, no_zero) = or_false _ _ plain in
    let bare = without_leading_plus_none bs (eqb-false (get_or bs 0 0) 43 no_sign) in
    let p = OkIff-at_ok r _ _ n parsed ok in
    let q = rw bare at p in
    let alone : get_or bs 0 0 ≡ 48 → length bs ≡ 1 = λ zero.
    elim (cases_lt 1 (length bs)) [
      | inl more ↦ absurd (both_ways _ no_zero (rw (lt-ltb _ _ more) (eq-eqb _ _ zero)))
      | inr one ↦ omega (arith, q.0.0.0)
    ] in
    let spelled = decimal-digits_value (numerals_by_value _ tells_digits) bs q.0.0.1 q.0.0.0 alone (omega (arith, q.0.1)) in
    sym spelled ∙ ap decimal (sym q.1)

-- `decimal` writes nothing that is padded
pub decimal_not_padded : (n : ℕ) (bs : List ℕ) → n < 256 → bs ≡ decimal n → is_padded bs ≡ true → ⊥
decimal_not_padded n bs small e padded =
    let numeral = decimal_is_IsNumeral n (omega arith) in
    let first = digit_at (decimal n) 0 numeral.0.1 numeral.0.0 in
    let padded_decimal = rw e at padded in
    or_true _ _ padded_decimal
    (λ sign. let same : get_or (decimal n) 0 0 ≡ 43 = eqb-true (get_or (decimal n) 0 0) 43 sign in omega (arith, first))
    (λ zero.
    let both : (nat_lt 1 (length (decimal n)) ≡ true) × ((get_or (decimal n) 0 0 == 48) ≡ true) = and_parts _ _ zero in
    let same : get_or (decimal n) 0 0 ≡ 48 = eqb-true (get_or (decimal n) 0 0) 48 both.1 in
    elim (cases_lt 0 n) [
      | inl some ↦ (let f : 48 < get_or (decimal n) 0 0 = first_decimal n some (omega arith) in omega arith)
      | inr none ↦ (let one : length (decimal n) ≡ 1 = ap length (decimal_digit n (omega arith)) in both_ways _ (ap (λ k. nat_lt 1 k) one) both.0)
    ])

-- what `parse` gives for the digits that `decimal` writes
pub parses_decimal : {E : Type 0} (bs : List ℕ) (r : Result ℕ E) (n : ℕ) → n < 256 → bs ≡ decimal n → ParsesUnsigned 8 10 bs r → r ≡ Ok n
parses_decimal bs r n small e parsed = parse-decimal 8 n bs r small (omega arith) e parsed
