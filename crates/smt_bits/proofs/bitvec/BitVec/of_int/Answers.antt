use Rattle.std.proofs.Common.{◌%◌, ◌^◌, ap, ◌∙◌}
use Rattle.std.specs.Int.{w128, cast_unsigned}
use Rattle.std.proofs.lemmas.Int.{to_z-of_z}
use Rattle.law_numbers.proofs.SignedRange.{bits_cut}
use Rattle.smt_bits.proofs.bitvec.BitVec.of_int.Goals as goal

pub returns-clause-value : goal.returns-clause-value
returns-clause-value c =
    let n = c.args.width.bits in
    let e = c.cast_unsigned.ensures ∙ ap (cast_unsigned w128) (to_z-of_z w128 c.args.v c.ranges.v) in
    c.of_nat.ensures.value ∙ ap (λ x. x % 2 ^ n) e ∙ bits_cut n c.args.v c.args.width.at_most_128 c.ranges.v
