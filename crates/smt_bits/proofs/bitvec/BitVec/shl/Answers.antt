use Rattle.std.proofs.Common.{◌<◌, arith}
use Rattle.law_numbers.proofs.Moved.{left_near}
use Rattle.smt_bits.proofs.bitvec.BitVec.shl.Goals as goal

pub returns-clause-value : goal.returns-clause-value
returns-clause-value c =
    let a = c.args.lhs.now in
    let near : c.in_ok-places.places < a.width.bits = omega (arith, c.if-get-places.false, c.get.ensures.value) in
    left_near a.width.bits a.number c.args.rhs.now.number c.in_ok-places.places c.of_nat-2.result.number a.width.at_most_128 near c.in_ok-places.ensures.value c.of_nat-2.ensures.value
