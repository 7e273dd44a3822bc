-- The printed form of a decimal, and that it is read back.
use Rattle.std.proofs.Common.{◌≡◌, ℕ, ◌+◌, ◌/◌, ◌%◌, ◌^◌, ◌<◌, ◌≤◌, true, false, List, [], ◌∷◌, ◌++◌, refl, sym, ap, ◌∙◌, inl, inr, arith, ℤ, pos, negsuc, lit≤}
use Rattle.std.specs.Prelude.{unsigned_abs, int_lt}
use Rattle.std.specs.Fmt.{decimal, styled_decimal, format_spec, padded_integral, char_count}
use Rattle.std.proofs.lemmas.Bool.{cases_lt, ltb-true, false≢true}
use Rattle.std.proofs.lemmas.Fmt.{decimal_digit, decimal_step, digits_decimal, digits_value-decimal, decimal_nonempty}
use Rattle.smt_ext.specs.Decimal.{IsDecimalText}
use Rattle.law_texts.specs.Digits.{padded, signed_number}
use Rattle.law_numbers.specs.Longs.{IsLong}
use Rattle.smt_ext.specs.Printed.{is_below_zero, decimal_text}
use Rattle.law_texts.proofs.Numbers.{numeral_model, numeral_from}
use Rattle.law_texts.proofs.Fields.{padded_digits, number-padded}

-- ---- four digits with zeros in front

one_digit : (r : ℕ) → r < 10 → decimal r ≡ (48 + r) ∷ []
one_digit r h = decimal_digit r h

two_digits : (r : ℕ) → 10 ≤ r → r < 100 → decimal r ≡ (48 + r / 10) ∷ (48 + r % 10) ∷ []
two_digits r l h = decimal_step r l (omega arith) ∙ ap (λ (v : List ℕ). v ++ ((48 + r % 10) ∷ [])) (one_digit (r / 10) (omega arith))

three_digits : (r : ℕ) → 100 ≤ r → r < 1000 → decimal r ≡ (48 + r / 10 / 10) ∷ (48 + r / 10 % 10) ∷ (48 + r % 10) ∷ []
three_digits r l h = decimal_step r (omega arith) (omega arith) ∙ ap (λ (v : List ℕ). v ++ ((48 + r % 10) ∷ [])) (two_digits (r / 10) (omega arith) (omega arith))

four_digits : (r : ℕ) → 1000 ≤ r → r < 10000 → decimal r ≡ (48 + r / 10 / 10 / 10) ∷ (48 + r / 10 / 10 % 10) ∷ (48 + r / 10 % 10) ∷ (48 + r % 10) ∷ []
four_digits r l h = decimal_step r (omega arith) (omega arith) ∙ ap (λ (v : List ℕ). v ++ ((48 + r % 10) ∷ [])) (three_digits (r / 10) (omega arith) (omega arith))

same_four : (a b c d e f g h : ℕ) → a ≡ e → b ≡ f → c ≡ g → d ≡ h → a ∷ b ∷ c ∷ d ∷ [] ≡ e ∷ f ∷ g ∷ h ∷ []
same_four a b c d e f g h p q r s = cc

pub padded_of_styled : (r : ℕ) → r < 10000 → styled_decimal (format_spec 32 0 4 4 18446744073709551615) r ≡ padded 4 r
unfolding padded_integral char_count
padded_of_styled r h = elim (cases_lt r 10) [
  | inl a ↦ rw (one_digit r a) (same_four _ _ _ _ _ _ _ _ (omega arith) (omega arith) (omega arith) (omega arith))
  | inr a ↦ elim (cases_lt r 100) [
    | inl b ↦ rw (two_digits r a b) (same_four _ _ _ _ _ _ _ _ (omega arith) (omega arith) (omega arith) (omega arith))
    | inr b ↦ elim (cases_lt r 1000) [
      | inl d ↦ rw (three_digits r b d) (same_four _ _ _ _ _ _ _ _ (omega arith) (omega arith) (omega arith) (omega arith))
      | inr d ↦ rw (four_digits r d h) (same_four _ _ _ _ _ _ _ _ (omega arith) (omega arith) (omega arith) (omega arith))
    ]
  ]
]

-- ---- the sign

pub below_zero : (v : ℤ) → int_lt v (pos 0) ≡ true → is_below_zero v ≡ true
below_zero (pos n) h = absurd (let l = ltb-true n 0 h in omega arith)
below_zero (negsuc n) h = refl

pub not_below_zero : (v : ℤ) → int_lt v (pos 0) ≡ false → is_below_zero v ≡ false
not_below_zero (pos n) h = refl
not_below_zero (negsuc n) h = absurd (false≢true (sym h))

pub signed_again : (v : ℤ) → v ≡ signed_number (is_below_zero v) (unsigned_abs v)
signed_again (pos n) = refl
signed_again (negsuc n) = refl

-- ---- reading back

abs_small : (v : ℤ) → IsLong v → unsigned_abs v < 2 ^ 64
abs_small (pos n) h = omega arith
abs_small (negsuc n) h = omega arith

pub printed_is_read : (v : ℤ) → IsLong v → IsDecimalText (decimal_text v) v
printed_is_read v h =
    let m = unsigned_abs v in
    let below = abs_small v h in
    let small : m / 10000 < 2 ^ 64 = omega arith in
    let low : m % 10000 < 10 ^ 4 = omega arith in
    record {
      negative = is_below_zero v;
      whole = decimal (m / 10000);
      fraction = padded 4 (m % 10000);
      parts = record {
        spelled = refl;
        whole_digits = numeral_from (decimal (m / 10000)) (decimal_nonempty (m / 10000) small) (digits_decimal numeral_model (m / 10000) small);
        fraction_digits = padded_digits 4 (m % 10000) low;
        places = lit≤ tt;
      };
      number = signed_again v ∙ ap (signed_number (is_below_zero v)) (rw (digits_value-decimal numeral_model (m / 10000) small, number-padded 4 (m % 10000) low) (omega arith));
      fits = h;
    }
