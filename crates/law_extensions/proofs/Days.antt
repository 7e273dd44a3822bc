-- The last midnight of literals of datetimes, and the time since.
use Rattle.std.proofs.Common.{◌≡◌, ℕ, ◌+◌, ◌-◌, ◌*◌, ◌%◌, ◌^◌, ◌<◌, zero, suc, refl, ap, sym, ◌∙◌, subst, arith}
use Rattle.std.specs.Prelude.{ℤ, pos, negsuc, ◌+ℤ◌, ◌-ℤ◌, ◌*ℤ◌, ◌≤ℤ◌, ◌<ℤ◌, neg_ℤ, int_le, int_rem}
use Rattle.std.proofs.lemmas.Bool.{le-leb}
use Rattle.std.proofs.lemmas.Int.{ints}
use Rattle.law_numbers.specs.BitVectors.{bits_of, bvadd, bvsmod, bvsrem, bvsub, overflows, signed}
use Rattle.law_numbers.specs.Laws.{IsModulus}
use Rattle.law_numbers.specs.Longs.{IsLong}
use Rattle.law_numbers.proofs.BitRanges.{bits_of-below, bvsmod-below}
use Rattle.law_numbers.proofs.Modulus.{modulus_has_sign}
use Rattle.law_numbers.proofs.TwosComplement.{division_rounds, signed_has_its_bits}
use Rattle.smt_ext.specs.Milliseconds.{day_start, time_of_day}
use Rattle.law_extensions.specs.ExtensionFunctions.{to_date, to_time}
use Rattle.law_extensions.specs.Laws.{DatetimesAreSplit, IsSomeWhereLong}
use Rattle.law_extensions.specs.Literals.{datetime, duration, no_datetime}
use Rattle.law_extensions.proofs.Choices.{chosen_otherwise, is_not_zero}
use Rattle.law_extensions.proofs.Longs.{signed_bits}
use Rattle.law_extensions.proofs.Moments.{guarded, moved_back}
use Rattle.law_folding.specs.Applications.{bits_literal, truth_literal}
use Rattle.law_folding.specs.Builder.{folding}
use Rattle.law_folding.specs.FoldExtensions.{signed_literal}
use Rattle.law_terms.specs.Plain.{DurationOfBitVecOp, PlainTerm}

-- what is left of a whole number of days, not below zero and below a day, is the time of the day
left_of_days : (z r k : ℤ) → z ≡ r +ℤ k *ℤ pos 86400000 → pos 0 ≤ℤ r → r <ℤ pos 86400000 → r ≡ time_of_day z
left_of_days z (negsuc x) k e low high = absurd (omega (arith, ints))
left_of_days (pos a) (pos x) (pos q) e low high =
    let s : a ≡ x + q * 86400000 = omega (arith, ints, e) in
    let k : x < 86400000 = omega (arith, ints) in
    ap pos (omega arith)
left_of_days (pos a) (pos x) (negsuc q) e low high = absurd (omega (arith, ints, e))
left_of_days (negsuc a) (pos x) (pos q) e low high = absurd (omega (arith, ints, e))
left_of_days (negsuc a) (pos x) (negsuc q) e low high =
    let s : x + a + 1 ≡ (q + 1) * 86400000 = omega (arith, ints, e) in
    let k : x < 86400000 = omega (arith, ints) in
    ap pos (omega arith)

long_time : (z : ℤ) → IsLong (time_of_day z)
long_time (pos a) = record { sfits = omega arith }
long_time (negsuc a) = record { sfits = omega arith }

-- ---- the last midnight

modulus_of_day : (z : ℤ) → IsLong z → bvsmod 64 (bits_of 64 z) 86400000 ≡ bits_of 64 (time_of_day z)
modulus_of_day z h =
    let a = bits_of 64 z in
    let m = bvsmod 64 a 86400000 in
    let w : IsModulus (signed 64 a) (pos 86400000) (signed 64 m) = modulus_has_sign 64 a 86400000 (bits_of-below 64 z) (omega arith) (omega arith) in
    let left : z ≡ signed 64 m +ℤ w.left.0 *ℤ pos 86400000 = sym (signed_bits z h) ∙ w.left.1 in
    sym (signed_has_its_bits 64 m (bvsmod-below 64 a 86400000 (bits_of-below 64 z) (omega arith))) ∙ ap (bits_of 64) (left_of_days z (signed 64 m) w.left.0 left w.below.0 w.below.1)

date : (z : ℤ) → IsLong z → IsSomeWhereLong (to_date folding (datetime z)) (day_start z) datetime no_datetime
date z h =
    let P : ℕ → Type 0 = λ m. IsSomeWhereLong (guarded datetime no_datetime (overflows 64 (signed 64 (bits_of 64 z) -ℤ signed 64 m)) (bvsub 64 (bits_of 64 z) m)) (day_start z) datetime no_datetime in
    subst P (sym (modulus_of_day z h)) (moved_back z (time_of_day z) h (long_time z))

-- ---- the time since

remainder_of_day : (z : ℤ) → IsLong z → bvsrem 64 (bits_of 64 z) 86400000 ≡ bits_of 64 (int_rem z (pos 86400000))
remainder_of_day z h =
    (division_rounds 64 (bits_of 64 z) 86400000 (bits_of-below 64 z) (omega arith) (omega arith)).remainder ∙ ap (λ x. bits_of 64 (int_rem x (pos 86400000))) (signed_bits z h)

-- where the number is below zero, from what is left of the day rounded towards zero
abbrev before_zero : ℕ → PlainTerm
before_zero m = folding.ite (folding.eq (bits_literal 64 m) (bits_literal 64 0)) (bits_literal 64 0) (bits_literal 64 (bvadd 64 m 86400000))

before_zero_at : (x a : ℕ) → suc a % 86400000 ≡ x → before_zero (bits_of 64 (neg_ℤ (pos x))) ≡ signed_literal (pos (86400000 - 1 - a % 86400000))
before_zero_at zero a e = ap (bits_literal 64) (omega arith)
before_zero_at (suc y) a e =
    let few : suc y < 86400000 = omega arith in
    let v = bits_of 64 (negsuc y) in
    let is : v + suc y ≡ 2 ^ 64 = omega arith in
    ap (λ t. folding.ite t (bits_literal 64 0) (bits_literal 64 (bvadd 64 v 86400000))) (is_not_zero v (omega arith)) ∙ chosen_otherwise (bits_literal 64 0) (bits_literal 64 (bvadd 64 v 86400000)) ∙ ap (bits_literal 64) (omega arith)

-- the choice by the sign of the number
abbrev by_sign : ℤ → ℕ → PlainTerm
by_sign z m = folding.ite (truth_literal (int_le (pos 0) z)) (bits_literal 64 m) (before_zero m)

by_sign_at : (z : ℤ) → by_sign z (bits_of 64 (int_rem z (pos 86400000))) ≡ signed_literal (time_of_day z)
by_sign_at (pos a) = let left = bits_of 64 (int_rem (pos a) (pos 86400000)) in ap (λ t. folding.ite (truth_literal t) (bits_literal 64 left) (before_zero left)) (le-leb 0 a (omega arith))
by_sign_at (negsuc a) = chosen_otherwise (signed_literal (int_rem (negsuc a) (pos 86400000))) (before_zero (bits_of 64 (int_rem (negsuc a) (pos 86400000)))) ∙ before_zero_at (suc a % 86400000) a refl

time : (z : ℤ) → IsLong z → to_time folding (datetime z) ≡ duration (time_of_day z)
time z h =
    let sign = ap (λ x. by_sign x (bvsrem 64 (bits_of 64 z) 86400000)) (signed_bits z h) in
    let left = ap (by_sign z) (remainder_of_day z h) in
    ap (folding.extension DurationOfBitVecOp) (sign ∙ left ∙ by_sign_at z) ∙ ap duration (signed_bits (time_of_day z) (long_time z))

pub datetimes_are_split : DatetimesAreSplit
datetimes_are_split = record { date = date; time = time }
