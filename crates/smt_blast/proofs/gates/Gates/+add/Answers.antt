use Rattle.std.proofs.Common.{ap, arith, length, suc, ◌≡◌}
use Rattle.law_blasting.specs.Sizes.{sum_size}
use Rattle.smt_blast.proofs.Adding.{added_step}
use Rattle.smt_blast.proofs.Standing.{grown_twice, then_grown}
use Rattle.smt_blast.proofs.gates.Gates.+add.Goals as goal

pub returns-clause-bits : goal.returns-clause-bits
returns-clause-bits t c =
    added_step c.args.chain c.add.new.self.nodes c.add.new.sum.items c.add.result c.in-Some.ensures.cases.0 c.in-Some-split_first.ensures.cases.0
    c.in_ok-equal.ensures.grows c.in_ok-equal.ensures.bit c.in_ok-bit.ensures.grows c.in_ok-bit.ensures.bit c.in_ok-push.ensures.items c.in_ok-next.ensures.grows c.in_ok-next.ensures.bit c.add.ensures.bits

pub returns-clause-grows : goal.returns-clause-grows
returns-clause-grows t c =
    let n : length c.args.xs.now ≡ suc (length c.in-Some.xs.now) = ap length c.in-Some.ensures.cases.0 in
    then_grown c.add.new.self.nodes (sum_size (length c.in-Some.xs.now)) (sum_size (length c.args.xs.now)) c.add.result (omega arith) (grown_twice (grown_twice c.in_ok-equal.ensures.grows c.in_ok-bit.ensures.grows) c.in_ok-next.ensures.grows) c.add.ensures.grows
