-- A text is read to a value exactly where it is a decimal with that value.
use Rattle.std.proofs.Common.{◌≡◌, ℕ, Bool, Some, List, ◌∷◌, ◌++◌, refl, ap, ap₂, ◌∙◌, drop, length, ℤ}
use Rattle.std.specs.Prelude.{bytes_eq}
use Rattle.std.proofs.Math.Seq.{drop-append_seam}
use Rattle.std.proofs.lemmas.Bool.{and_parts, and_from, leb-true, le-leb}
use Rattle.std.proofs.lemmas.Slice.Eq.{bytes_eq-Decides}
use Rattle.law_texts.specs.Characters.{is_digit}
use Rattle.law_texts.specs.Digits.{is_numeral, minus_if}
use Rattle.law_texts.proofs.Runs.{numeral_unsigned, digits_of_numeral}
use Rattle.smt_ext.specs.Decimal.{HasDecimalParts, IsDecimalText}
use Rattle.law_extensions.specs.DecimalTexts.{whole_digits, fraction_digits, decimal_of, decimal_in}
use Rattle.law_extensions.specs.Readings.{DecimalsAreRead}
use Rattle.law_extensions.specs.Signs.{has_minus}
use Rattle.law_extensions.proofs.Signs.{long_there, long_put, sign_read, run_read}

-- ---- the parts of a text

parts_give : (text w f : List ℕ) (n : Bool) (v : ℤ) → decimal_of text n w f ≡ Some v → IsDecimalText text v
parts_give text w f n v e =
    let t = long_there _ _ v e in
    let a = and_parts (bytes_eq text (minus_if n ++ (w ++ (46 ∷ f)))) _ t.0 in
    let b = and_parts (is_numeral w) _ a.1 in
    let c = and_parts (is_numeral f) _ b.1 in
    record {
      negative = n;
      whole = w;
      fraction = f;
      parts = record { spelled = (bytes_eq-Decides _ _).0 a.0; whole_digits = b.0; fraction_digits = c.0; places = leb-true (length f) 4 c.1 };
      number = t.1;
      fits = t.2;
    }

given_by_parts : (text : List ℕ) (v : ℤ) (d : IsDecimalText text v) → decimal_of text d.negative d.whole d.fraction ≡ Some v
given_by_parts text v d =
    let p = d.parts in
    let places = le-leb (length d.fraction) 4 p.places in
    let spelled = (bytes_eq-Decides text (minus_if d.negative ++ (d.whole ++ (46 ∷ d.fraction)))).1 p.spelled in
    long_put _ _ v (and_from _ _ spelled (and_from _ _ p.whole_digits (and_from _ _ p.fraction_digits places))) d.number d.fits

-- they are read as they are written
parts_read : (text whole fraction : List ℕ) (n : Bool) → HasDecimalParts text n whole fraction → (has_minus text ≡ n) × (whole_digits text ≡ whole) × (fraction_digits text ≡ fraction)
parts_read text whole fraction n p =
    let s = sign_read text (whole ++ (46 ∷ fraction)) n p.spelled (numeral_unsigned whole (46 ∷ fraction) p.whole_digits) in
    let w : whole_digits text ≡ whole = rw s.1 (run_read is_digit whole (46 ∷ fraction) (digits_of_numeral whole p.whole_digits) refl) in
    (s.0, w, ap₂ (λ (xs ys : List ℕ). drop 1 (drop (length xs) ys)) w s.1 ∙ ap (λ (xs : List ℕ). drop 1 xs) (drop-append_seam whole (46 ∷ fraction)))

-- ---- the law

decimal_is_read : (text : List ℕ) (v : ℤ) → IsDecimalText text v → decimal_in text ≡ Some v
decimal_is_read text v d =
    let p = parts_read text d.whole d.fraction d.negative d.parts in
    let same : decimal_in text ≡ decimal_of text d.negative d.whole d.fraction = λ i. decimal_of text (p.0 i) (p.1 i) (p.2 i) in
    same ∙ given_by_parts text v d

pub decimals_are_read : DecimalsAreRead
decimals_are_read text v = (parts_give text (whole_digits text) (fraction_digits text) (has_minus text) v, decimal_is_read text v)
