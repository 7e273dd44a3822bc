-- The numbers of units in literals of durations.
use Rattle.std.proofs.Common.{◌≡◌, ℕ, ◌^◌, ◌<◌, refl, ap, ◌∙◌, arith}
use Rattle.std.specs.Prelude.{ℤ, pos, int_div}
use Rattle.std.specs.Int.{w64}
use Rattle.std.proofs.lemmas.Int.{ints, quot_fits}
use Rattle.law_numbers.specs.BitOperators.{BvsdivOp}
use Rattle.law_numbers.specs.BitVectors.{bits_of, bvsdiv, signed}
use Rattle.law_numbers.specs.Longs.{IsLong}
use Rattle.law_numbers.proofs.BitRanges.{bits_of-below}
use Rattle.law_numbers.proofs.TwosComplement.{division_rounds}
use Rattle.smt_ext.specs.Milliseconds.{whole_days, whole_hours, whole_minutes, whole_seconds}
use Rattle.law_extensions.specs.ExtensionFunctions.{to_days, to_hours, to_minutes, to_seconds}
use Rattle.law_extensions.specs.Laws.{DurationsAreMeasured}
use Rattle.law_extensions.specs.Literals.{duration}
use Rattle.law_extensions.proofs.Longs.{signed_bits}
use Rattle.law_folding.specs.Applications.{bits_literal}
use Rattle.law_folding.specs.Builder.{folding}
use Rattle.law_folding.specs.FoldExtensions.{signed_literal}

-- the bits of a number divided by a positive number of few bits
divided : (z : ℤ) (n : ℕ) → IsLong z → 0 < n → n < 2 ^ 63 → signed 64 n ≡ pos n → bvsdiv 64 (bits_of 64 z) n ≡ bits_of 64 (int_div z (pos n))
divided z n h p k e =
    (division_rounds 64 (bits_of 64 z) n (bits_of-below 64 z) (omega arith) p).quotient ∙ ap (λ x. bits_of 64 (int_div x (signed 64 n))) (signed_bits z h) ∙ ap (λ x. bits_of 64 (int_div z x)) e

stays : (z : ℤ) (n : ℕ) → IsLong z → 0 < n → IsLong (int_div z (pos n))
stays z n h p = quot_fits w64 z (pos n) h (omega (arith, ints))

seconds : (z : ℤ) → IsLong z → to_seconds folding (duration z) ≡ signed_literal (whole_seconds z)
seconds z h = ap (bits_literal 64) (divided z 1000 h (omega arith) (omega arith) refl)

long_seconds : (z : ℤ) → IsLong z → IsLong (whole_seconds z)
long_seconds z h = stays z 1000 h (omega arith)

minutes : (z : ℤ) → IsLong z → to_minutes folding (duration z) ≡ signed_literal (whole_minutes z)
minutes z h = ap (λ t. folding.bits BvsdivOp t (bits_literal 64 60)) (seconds z h) ∙ ap (bits_literal 64) (divided (whole_seconds z) 60 (long_seconds z h) (omega arith) (omega arith) refl)

long_minutes : (z : ℤ) → IsLong z → IsLong (whole_minutes z)
long_minutes z h = stays (whole_seconds z) 60 (long_seconds z h) (omega arith)

hours : (z : ℤ) → IsLong z → to_hours folding (duration z) ≡ signed_literal (whole_hours z)
hours z h = ap (λ t. folding.bits BvsdivOp t (bits_literal 64 60)) (minutes z h) ∙ ap (bits_literal 64) (divided (whole_minutes z) 60 (long_minutes z h) (omega arith) (omega arith) refl)

days : (z : ℤ) → IsLong z → to_days folding (duration z) ≡ signed_literal (whole_days z)
days z h =
    ap (λ t. folding.bits BvsdivOp t (bits_literal 64 24)) (hours z h) ∙ ap (bits_literal 64) (divided (whole_hours z) 24 (stays (whole_minutes z) 60 (long_minutes z h) (omega arith)) (omega arith) (omega arith) refl)

pub durations_are_measured : DurationsAreMeasured
durations_are_measured = record { milliseconds = λ z. refl; seconds = seconds; minutes = minutes; hours = hours; days = days }
