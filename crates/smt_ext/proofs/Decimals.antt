-- A decimal's text has one sign, one list of digits before the point and one behind it.
use Rattle.std.proofs.Common.{lit<, ◌≡◌, ℕ, zero, suc, ◌^◌, ◌<◌, Bool, true, false, List, ◌∷◌, ◌++◌, refl, sym, ◌∙◌, arith, ℤ}
use Rattle.smt_ext.specs.declared.decimal.DecimalError.{DecimalError}
use Rattle.smt_ext.specs.declared.decimal.DecimalError.TheVariants.{ParseError, Memory}
use Rattle.smt_ext.specs.Decimal.{HoldsDecimalText, IsDecimalRefusal, HasDecimalParts, ten_thousandths, IsDecimalText, IsNoDecimal}
use Rattle.law_texts.specs.Characters.{is_digit}
use Rattle.law_texts.specs.Digits.{signed_number}
use Rattle.law_numbers.specs.Longs.{IsLong}
use Rattle.law_texts.specs.Front.{IsRun, IsSigned}
use Rattle.law_texts.proofs.Runs.{one_run, one_sign, sign_of, numeral_unsigned, digits_of_numeral}

-- What is split off is the parts.
pub parts_are : (text rest whole after w f : List ℕ) (negative n : Bool) → IsSigned text negative rest → IsRun is_digit rest whole after → HasDecimalParts text n w f → (negative ≡ n) × (whole ≡ w) × (after ≡ 46 ∷ f)
parts_are text rest whole after w f negative n s r p =
    let u = one_sign text rest (w ++ (46 ∷ f)) negative n s p.spelled (numeral_unsigned w (46 ∷ f) p.whole_digits) in
    let v = one_run is_digit whole w after (46 ∷ f) r.each (digits_of_numeral w p.whole_digits) r.longest refl (sym r.whole ∙ u.1) in
    (u.0, v.0, v.1)

-- two lists of parts are one
one_split : (text w f x g : List ℕ) (m n : Bool) → HasDecimalParts text m w f → HasDecimalParts text n x g → (m ≡ n) × (w ≡ x) × (f ≡ g)
one_split text w f x g m n p q =
    let s = sign_of text (w ++ (46 ∷ f)) m p.spelled (numeral_unsigned w (46 ∷ f) p.whole_digits) in
    let r : IsRun is_digit (w ++ (46 ∷ f)) w (46 ∷ f) = record { whole = refl; each = digits_of_numeral w p.whole_digits; longest = refl } in
    let u = parts_are text (w ++ (46 ∷ f)) w (46 ∷ f) x g m n s r q in
    let t : f ≡ g = cc in
    (u.0, u.1, t)

-- the value is that of the parts
value_of_parts : (text w f : List ℕ) (n : Bool) (v : ℤ) → HasDecimalParts text n w f → IsDecimalText text v → v ≡ signed_number n (ten_thousandths w f)
value_of_parts text w f n v p d =
    let u = one_split text d.whole d.fraction w f d.negative n d.parts p in
    d.number ∙ rw (u.0, u.1, u.2) refl

pub one_value : (text : List ℕ) (v w : ℤ) → IsDecimalText text v → IsDecimalText text w → v ≡ w
one_value text v w d e = value_of_parts text e.whole e.fraction e.negative v e.parts d ∙ sym e.number

-- a number with a sign that fits 64 bits is below 2 to the 64
small : (n : Bool) (t : ℕ) → IsLong (signed_number n t) → t < 2 ^ 64
small true zero h = lit< tt
small true (suc t) h = omega arith
small false t h = omega arith

pub no_decimal_by_size : (text w f : List ℕ) (n : Bool) → HasDecimalParts text n w f → (ten_thousandths w f < 2 ^ 64 → ⊥) → IsNoDecimal text
no_decimal_by_size text w f n p big v d =
    big (small n (ten_thousandths w f) (let e = value_of_parts text w f n v p d in rw (← e) d.fits))

pub no_decimal_by_sign : (text w f : List ℕ) (n : Bool) (t : ℕ) → HasDecimalParts text n w f → t ≡ ten_thousandths w f → (IsLong (signed_number n t) → ⊥) → IsNoDecimal text
no_decimal_by_sign text w f n t p e far v d =
    far (let g = value_of_parts text w f n v p d in rw e (rw (← g) d.fits))

-- the parts and their value are the decimal
pub decimal_is : (text w f : List ℕ) (n : Bool) (v : ℤ) → HasDecimalParts text n w f → v ≡ signed_number n (ten_thousandths w f) → IsLong v → IsDecimalText text v
decimal_is text w f n v p e l = record { negative = n; whole = w; fraction = f; parts = p; number = e; fits = l }

pub refusal_of : (text : List ℕ) (e : DecimalError) → HoldsDecimalText text e → IsNoDecimal text → IsDecimalRefusal text e
refusal_of text (ParseError given) h n = (h, n)
refusal_of text Memory h n = n
