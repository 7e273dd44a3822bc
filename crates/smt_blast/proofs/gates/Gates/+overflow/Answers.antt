use Rattle.std.proofs.Common.{ap, arith, length, suc, sym, ◌≡◌, ◌∙◌}
use Rattle.law_blasting.specs.Sizes.{overflow_size}
use Rattle.smt_blast.proofs.Adding.{leaves_last_any, leaves_rest}
use Rattle.smt_blast.proofs.Gating.{is_empty, is_not_empty}
use Rattle.smt_blast.proofs.Standing.{grown_twice, then_grown}
use Rattle.smt_blast.proofs.gates.Gates.+overflow.Goals as goal

pub returns-in_ok-same-clause-bit : goal.returns-in_ok-same-clause-bit
returns-in_ok-same-clause-bit t c =
    leaves_last_any c.args.chain c.not.new.self.nodes c.not.result c.in-Some.ensures.cases.0 c.in-Some-split_first.ensures.cases.0 (is_empty c.in-Some.xs.now (sym c.is_empty.ensures ∙ c.if-is_empty.true))
    c.in_ok-equal.ensures.grows c.in_ok-equal.ensures.bit c.in_ok-next.ensures.grows c.in_ok-next.ensures.bit c.in_ok-same.ensures.grows c.in_ok-same.ensures.bit c.not.ensures.bit

pub returns-in_ok-same-clause-grows : goal.returns-in_ok-same-clause-grows
returns-in_ok-same-clause-grows t c =
    let n : length c.args.xs.now ≡ suc (length c.in-Some.xs.now) = ap length c.in-Some.ensures.cases.0 in
    then_grown c.not.new.self.nodes 1 (overflow_size (length c.args.xs.now)) c.not.result (omega arith) (grown_twice (grown_twice c.in_ok-equal.ensures.grows c.in_ok-next.ensures.grows) c.in_ok-same.ensures.grows) c.not.ensures.grows

pub returns-else-is_empty-clause-bit : goal.returns-else-is_empty-clause-bit
returns-else-is_empty-clause-bit t c =
    leaves_rest c.args.chain c.overflow.new.self.nodes c.overflow.result c.in-Some.ensures.cases.0 c.in-Some-split_first.ensures.cases.0 (is_not_empty c.in-Some.xs.now (sym c.is_empty.ensures ∙ c.if-is_empty.false))
    c.in_ok-equal.ensures.grows c.in_ok-equal.ensures.bit c.in_ok-next.ensures.grows c.in_ok-next.ensures.bit c.overflow.ensures.bit

pub returns-else-is_empty-clause-grows : goal.returns-else-is_empty-clause-grows
returns-else-is_empty-clause-grows t c =
    let n : length c.args.xs.now ≡ suc (length c.in-Some.xs.now) = ap length c.in-Some.ensures.cases.0 in
    then_grown c.overflow.new.self.nodes (overflow_size (length c.in-Some.xs.now)) (overflow_size (length c.args.xs.now)) c.overflow.result (omega arith) (grown_twice c.in_ok-equal.ensures.grows c.in_ok-next.ensures.grows) c.overflow.ensures.grows
