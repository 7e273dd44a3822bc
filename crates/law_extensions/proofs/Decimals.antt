-- The order of literals of decimals.
use Rattle.std.proofs.Common.{◌≡◌, Bool, ap, ◌∙◌}
use Rattle.std.specs.Prelude.{ℤ, int_lt, int_le}
use Rattle.law_numbers.specs.BitVectors.{bits_of, signed}
use Rattle.law_numbers.specs.Longs.{IsLong}
use Rattle.law_extensions.specs.Laws.{DecimalsAreCompared}
use Rattle.law_extensions.proofs.Longs.{signed_bits}
use Rattle.law_folding.specs.Applications.{truth_literal}

-- a test of two numbers, from that of the two's complement values of their bits
compared : (f : ℤ → ℤ → Bool) (z w : ℤ) → IsLong z → IsLong w → truth_literal (f (signed 64 (bits_of 64 z)) (signed 64 (bits_of 64 w))) ≡ truth_literal (f z w)
compared f z w h k = ap (λ x. truth_literal (f x (signed 64 (bits_of 64 w)))) (signed_bits z h) ∙ ap (λ x. truth_literal (f z x)) (signed_bits w k)

pub decimals_are_compared : DecimalsAreCompared
decimals_are_compared = record {
  less_than = compared int_lt;
  less_than_or_equal = compared int_le;
  greater_than = λ z w h k. compared int_lt w z k h;
  greater_than_or_equal = λ z w h k. compared int_le w z k h;
}
