use Rattle.law_numbers.proofs.SignedRange.{half_fits, greatest}
use Rattle.smt_bits.proofs.bitvec.BitVec.signed_max.Goals as goal

pub overflow_cast-result : goal.overflow_cast-result
overflow_cast-result c = record { sfits = half_fits c.high_bit.result c.args.n.bits c.high_bit.ensures.doubled c.args.n.at_most_128 }

pub returns : goal.returns
returns c =
    greatest c.high_bit.result c.args.n.bits c.high_bit.ensures.value (half_fits c.high_bit.result c.args.n.bits c.high_bit.ensures.doubled c.args.n.at_most_128)
