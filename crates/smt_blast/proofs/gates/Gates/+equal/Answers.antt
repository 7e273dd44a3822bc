use Rattle.std.proofs.Common.{ap, arith, length, suc, sym, ◌≡◌, ◌∙◌}
use Rattle.law_blasting.specs.Sizes.{equal_size}
use Rattle.smt_blast.proofs.Comparing.{equals_at_last, equals_rest}
use Rattle.smt_blast.proofs.Gating.{is_empty, is_not_empty}
use Rattle.smt_blast.proofs.Standing.{grown_twice, then_grown}
use Rattle.smt_blast.proofs.gates.Gates.+equal.Goals as goal

pub returns-then-is_empty-clause-bit : goal.returns-then-is_empty-clause-bit
returns-then-is_empty-clause-bit t c = equals_at_last c.in-Some.ensures.cases.0 c.in-Some-split_first.ensures.cases.0 (is_empty c.in-Some.xs.now (sym c.is_empty.ensures ∙ c.if-is_empty.true)) c.in_ok-one.ensures.bit

pub returns-in_ok-others-clause-bit : goal.returns-in_ok-others-clause-bit
returns-in_ok-others-clause-bit t c =
    equals_rest c.and.new.self.nodes c.and.result c.in-Some.ensures.cases.0 c.in-Some-split_first.ensures.cases.0 (is_not_empty c.in-Some.xs.now (sym c.is_empty.ensures ∙ c.if-is_empty.false))
    c.in_ok-one.ensures.grows c.in_ok-one.ensures.bit c.in_ok-others.ensures.grows c.in_ok-others.ensures.bit c.and.ensures.bit

pub returns-in_ok-others-clause-grows : goal.returns-in_ok-others-clause-grows
returns-in_ok-others-clause-grows t c =
    let n : length c.args.xs.now ≡ suc (length c.in-Some.xs.now) = ap length c.in-Some.ensures.cases.0 in
    then_grown c.and.new.self.nodes 1 (equal_size (length c.args.xs.now)) c.and.result (omega arith) (grown_twice c.in_ok-one.ensures.grows c.in_ok-others.ensures.grows) c.and.ensures.grows
