use Rattle.std.proofs.Common.{ap, arith, length, suc, ◌≡◌}
use Rattle.law_blasting.specs.Sizes.{carry_size}
use Rattle.smt_blast.proofs.Comparing.{borrows_rest}
use Rattle.smt_blast.proofs.Standing.{grown_twice, then_grown}
use Rattle.smt_blast.proofs.gates.Gates.+borrow_out.Goals as goal

pub returns-clause-bit : goal.returns-clause-bit
returns-clause-bit t c =
    borrows_rest c.borrow_out.new.self.nodes c.borrow_out.result c.in-Some.ensures.cases.0 c.in-Some-split_first.ensures.cases.0 c.in_ok-equal.ensures.grows c.in_ok-equal.ensures.bit c.in_ok-next.ensures.grows c.in_ok-next.ensures.bit c.borrow_out.ensures.bit

pub returns-clause-grows : goal.returns-clause-grows
returns-clause-grows t c =
    let n : length c.args.xs.now ≡ suc (length c.in-Some.xs.now) = ap length c.in-Some.ensures.cases.0 in
    then_grown c.borrow_out.new.self.nodes (carry_size (length c.in-Some.xs.now)) (carry_size (length c.args.xs.now)) c.borrow_out.result (omega arith) (grown_twice c.in_ok-equal.ensures.grows c.in_ok-next.ensures.grows) c.borrow_out.ensures.grows
