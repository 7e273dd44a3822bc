-- Widths, bitvectors and bounded numbers of the same numbers are the same values: their invariants have one proof each.
use Rattle.std.proofs.Common.{◌≡◌, ◌^◌, ◌<◌, ◌≤◌}
use mathlib.Core.HLevel.{is_prop→PathP}
use native.Mathlib.Bridge.{le_prop}
use Rattle.smt_bits.specs.BitVec.{width_of, number_of}
use Rattle.smt_bits.specs.Fin.{bound_of, value_of}
use Rattle.smt_bits.specs.Width.{bits_in}
use Rattle.smt_bits.specs.declared.bitvec.BitVec.{BitVec}
use Rattle.smt_bits.specs.declared.fin.Fin.{Fin}
use Rattle.smt_bits.specs.declared.width.Width.{Width}

pub same_width : (a b : Width) → bits_in a ≡ bits_in b → a ≡ b
same_width a b e = λ i. record {
  bits = e i;
  at_least_one = is_prop→PathP (λ j. 1 ≤ e j) (λ j. le_prop) a.at_least_one b.at_least_one i;
  at_most_128 = is_prop→PathP (λ j. e j ≤ 128) (λ j. le_prop) a.at_most_128 b.at_most_128 i;
}

pub same_bits : (a b : BitVec) → width_of a ≡ width_of b → number_of a ≡ number_of b → a ≡ b
same_bits a b e f =
    let w : a.width ≡ b.width = same_width a.width b.width e in
    λ i. record {
      width = w i;
      number = f i;
      below_width = is_prop→PathP (λ j. f j < 2 ^ bits_in (w j)) (λ j. le_prop) a.below_width b.below_width i;
    }

pub same_bounded : (a b : Fin) → bound_of a ≡ bound_of b → value_of a ≡ value_of b → a ≡ b
same_bounded a b e f = λ i. record {
  upper_bound = e i;
  number = f i;
  below_bound = is_prop→PathP (λ j. f j < e j) (λ j. le_prop) a.below_bound b.below_bound i;
}
