-- The sign of a text, the bounds of 64 bits, and runs at the front of a text.
use Rattle.std.proofs.Common.{◌≡◌, ℕ, ◌^◌, Bool, true, false, eqb, ◌&&◌, cond, ◌++◌, Some, None, List, [], ◌∷◌, refl, sym, ap, ◌∙◌, take, length, arith, ℤ, pos, negsuc}
use Rattle.std.specs.List.{list_all, take_while, prefix_len}
use Rattle.std.proofs.Math.Numerals.{one-add}
use Rattle.std.proofs.Math.Seq.{take-append_seam}
use Rattle.std.proofs.lemmas.Bool.{and_parts, and_from, not-true, ltb-true, leb-true, lt-ltb, le-leb}
use Rattle.law_numbers.specs.Longs.{IsLong}
use Rattle.law_texts.specs.Digits.{minus_if}
use Rattle.law_texts.specs.Front.{begins_without}
use Rattle.law_extensions.specs.Signs.{has_minus, without_minus, is_long, long_where}

-- ---- 64 bits

pub long_from_test : (v : ℤ) → is_long v ≡ true → IsLong v
long_from_test (pos n) h = record { sfits = ltb-true n (2 ^ 63) h }
long_from_test (negsuc n) h = record { sfits = (let l = leb-true n 9223372036854775807 (and_parts _ _ h).0 in omega arith) }

pub long_passes : (v : ℤ) → IsLong v → is_long v ≡ true
long_passes (pos n) h = lt-ltb n (2 ^ 63) h.sfits
long_passes (negsuc n) h = and_from _ _ (le-leb n 9223372036854775807 (let l = h.sfits in omega arith)) refl

chosen : (b : Bool) (x y : ℤ) → cond b (Some x) None ≡ Some y → (b ≡ true) × (x ≡ y)
chosen true x y e = (refl, cc)
chosen false x y e = absurd (let h = e in cc)

-- What is there where a condition holds and a value fits.
pub long_there : (condition : Bool) (x y : ℤ) → long_where condition x ≡ Some y → (condition ≡ true) × (y ≡ x) × IsLong y
long_there condition x y e =
    let c = chosen (condition && is_long x) x y e in
    let a = and_parts condition (is_long x) c.0 in
    (a.0, sym c.1, long_from_test y (ap is_long (sym c.1) ∙ a.1))

pub long_put : (condition : Bool) (x y : ℤ) → condition ≡ true → y ≡ x → IsLong y → long_where condition x ≡ Some y
long_put condition x y c e l = rw (← e) (rw (c, long_passes y l) refl)

-- ---- the sign

-- the sign of a text is read as it is written
pub sign_read : (text other : List ℕ) (n : Bool) → text ≡ minus_if n ++ other → begins_without (λ b. eqb b 45) other ≡ true → (has_minus text ≡ n) × (without_minus text ≡ other)
sign_read text other true e h = rw e (refl, refl)
sign_read text [] false e h = rw e (refl, refl)
sign_read text (b ∷ bs) false e h = let f = not-true (eqb b 45) h in rw (e, f) (refl, refl)

-- ---- runs

run_length : (test : ℕ → Bool) (run rest : List ℕ) → list_all test run ≡ true → begins_without test rest ≡ true → prefix_len test (run ++ rest) ≡ length run
run_length test [] [] h k = refl
run_length test [] (b ∷ rest) h k = rw (not-true (test b) k) refl
run_length test (b ∷ run) rest h k =
    let a = and_parts (test b) (list_all test run) h in
    rw (a.0, run_length test run rest a.1 k) (one-add (length run))

-- The longest run at the front of a run and what follows it is that run.
pub run_read : (test : ℕ → Bool) (run rest : List ℕ) → list_all test run ≡ true → begins_without test rest ≡ true → take_while test (run ++ rest) ≡ run
run_read test run rest h k = ap (λ (n : ℕ). take n (run ++ rest)) (run_length test run rest h k) ∙ take-append_seam run rest
