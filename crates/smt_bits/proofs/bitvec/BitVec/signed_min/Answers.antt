use Rattle.std.proofs.Common.{◌<◌, ◌^◌, arith}
use Rattle.std.proofs.Math.Pow.{pow_pos}
use Rattle.law_numbers.proofs.SignedRange.{half_fits, least}
use Rattle.smt_bits.proofs.bitvec.BitVec.signed_min.Goals as goal

pub overflow_cast-result : goal.overflow_cast-result
overflow_cast-result c = record { sfits = half_fits c.high_bit.result c.args.n.bits c.high_bit.ensures.doubled c.args.n.at_most_128 }

pub returns : goal.returns
returns c =
    let p : 0 < 2 ^ c.args.n.bits = pow_pos c.args.n.bits in
    least c.high_bit.result c.args.n.bits c.high_bit.ensures.value (omega (arith, c.high_bit.ensures.doubled)) (half_fits c.high_bit.result c.args.n.bits c.high_bit.ensures.doubled c.args.n.at_most_128)
