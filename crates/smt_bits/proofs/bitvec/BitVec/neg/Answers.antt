use Rattle.std.proofs.Common.{◌-◌, ◌%◌, ◌^◌, zero-add, ap, ◌∙◌}
use Rattle.law_numbers.proofs.Masks.{cut_difference}
use Rattle.smt_bits.proofs.bitvec.BitVec.neg.Goals as goal

pub returns-clause-value : goal.returns-clause-value
returns-clause-value c =
    let n = c.args.self.now.width.bits in
    let a = c.args.self.now.number in
    c.of_nat.ensures.value ∙ cut_difference 0 a n c.args.self.now.width.at_most_128 c.args.self.now.below_width ∙ ap (λ x. x % 2 ^ n) (zero-add (2 ^ n - a))
