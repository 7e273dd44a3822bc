use Rattle.std.proofs.Common.{◌+◌, ◌∙◌}
use Rattle.law_numbers.proofs.Masks.{cut}
use Rattle.smt_bits.proofs.bitvec.BitVec.sum.Goals as goal

pub returns-clause-value : goal.returns-clause-value
returns-clause-value c =
    c.of_nat.ensures.value ∙ cut (c.args.self.now.number + c.args.rhs.now.number) c.args.self.now.width.bits c.args.self.now.width.at_most_128
