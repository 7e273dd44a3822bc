use Rattle.std.proofs.Common.{◌*◌, ◌∙◌}
use Rattle.law_numbers.proofs.Masks.{cut}
use Rattle.smt_bits.proofs.bitvec.BitVec.mul.Goals as goal

pub returns-clause-value : goal.returns-clause-value
returns-clause-value c =
    c.of_nat.ensures.value ∙ cut (c.args.lhs.now.number * c.args.rhs.now.number) c.args.lhs.now.width.bits c.args.lhs.now.width.at_most_128
