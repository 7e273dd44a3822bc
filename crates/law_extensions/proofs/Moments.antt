-- Sums and differences of literals of datetimes and durations.
use Rattle.std.proofs.Common.{◌≡◌, ℕ, Bool, true, false, refl, ap, ◌∙◌}
use Rattle.std.specs.Prelude.{ℤ, ◌+ℤ◌, ◌-ℤ◌}
use Rattle.law_numbers.specs.BitVectors.{bits_of, bvadd, bvsub, overflows, signed}
use Rattle.law_numbers.specs.Longs.{IsLong}
use Rattle.law_extensions.specs.Laws.{DatetimesAreMoved, IsSomeWhereLong}
use Rattle.law_extensions.specs.Literals.{datetime, duration, no_datetime, no_duration}
use Rattle.law_extensions.proofs.Longs.{difference_bits, leaves_long, signed_bits, stays_long, sum_bits}
use Rattle.law_folding.specs.Applications.{truth_literal}
use Rattle.law_folding.specs.Builder.{folding}
use Rattle.law_terms.specs.Plain.{PlainTerm, SomeTerm}

-- what is built of an overflow test and of the bits of a number: a literal where the test is false
abbrev pub guarded : (literal : ℤ → PlainTerm) (none : PlainTerm) → Bool → ℕ → PlainTerm
guarded literal none t m = folding.ite (truth_literal t) none (SomeTerm (literal (signed 64 m)))

module _ (literal : ℤ → PlainTerm) (none : PlainTerm) (at_true : (u : PlainTerm) → folding.ite (truth_literal true) none (SomeTerm u) ≡ none) (at_false : (u : PlainTerm) → folding.ite (truth_literal false) none (SomeTerm u) ≡ SomeTerm u) where
  -- a test of a number, and bits that are the number's where that stays
  pub some_where_long : (v x : ℤ) (m : ℕ) → x ≡ v → (IsLong v → m ≡ bits_of 64 v) → IsSomeWhereLong (guarded literal none (overflows 64 x) m) v literal none
  some_where_long v x m e k = record {
    some = λ h. ap (λ t. guarded literal none t m) (ap (overflows 64) e ∙ stays_long v h) ∙ at_false (literal (signed 64 m)) ∙ ap (λ y. SomeTerm (literal (signed 64 y))) (k h) ∙ ap (λ y. SomeTerm (literal y)) (signed_bits v h);
    none = λ h. ap (λ t. guarded literal none t m) (ap (overflows 64) e ∙ leaves_long v h) ∙ at_true (literal (signed 64 m));
  }

-- two numbers by the two's complement values of their bits
both : (f : ℤ → ℤ → ℤ) (z w : ℤ) → IsLong z → IsLong w → f (signed 64 (bits_of 64 z)) (signed 64 (bits_of 64 w)) ≡ f z w
both f z w h k = ap (λ x. f x (signed 64 (bits_of 64 w))) (signed_bits z h) ∙ ap (f z) (signed_bits w k)

pub moved_by : (z w : ℤ) → IsLong z → IsLong w → IsSomeWhereLong (guarded datetime no_datetime (overflows 64 (signed 64 (bits_of 64 z) +ℤ signed 64 (bits_of 64 w))) (bvadd 64 (bits_of 64 z) (bits_of 64 w))) (z +ℤ w) datetime no_datetime
moved_by z w h k = some_where_long datetime no_datetime (λ u. refl) (λ u. refl) (z +ℤ w) _ _ (both (λ x y. x +ℤ y) z w h k) (sum_bits z w h k)

pub moved_back : (z w : ℤ) → IsLong z → IsLong w → IsSomeWhereLong (guarded datetime no_datetime (overflows 64 (signed 64 (bits_of 64 z) -ℤ signed 64 (bits_of 64 w))) (bvsub 64 (bits_of 64 z) (bits_of 64 w))) (z -ℤ w) datetime no_datetime
moved_back z w h k = some_where_long datetime no_datetime (λ u. refl) (λ u. refl) (z -ℤ w) _ _ (both (λ x y. x -ℤ y) z w h k) (difference_bits z w h k)

since : (z w : ℤ) → IsLong z → IsLong w → IsSomeWhereLong (guarded duration no_duration (overflows 64 (signed 64 (bits_of 64 z) -ℤ signed 64 (bits_of 64 w))) (bvsub 64 (bits_of 64 z) (bits_of 64 w))) (z -ℤ w) duration no_duration
since z w h k = some_where_long duration no_duration (λ u. refl) (λ u. refl) (z -ℤ w) _ _ (both (λ x y. x -ℤ y) z w h k) (difference_bits z w h k)

pub datetimes_are_moved : DatetimesAreMoved
datetimes_are_moved = record { offset = moved_by; duration_since = since }
