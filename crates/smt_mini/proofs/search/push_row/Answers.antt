use Rattle.std.proofs.Common.{◌∙◌, ◌≤◌, ◌-◌, arith}
use Rattle.smt_mini.proofs.RowBits.{row_next}
use Rattle.smt_mini.proofs.search.push_row.Goals as goal

pub loop-left-preserved : goal.loop-left-preserved
loop-left-preserved c =
    let fewer : c.loop-left.left - 1 ≤ 6 = omega (arith, c.loop-left.invariant.0) in
    (fewer, row_next c.loop-left.chosen.items c.push.new.self.items c.loop-left.left c.args.row c.loop-left-test.true c.in_ok-push.ensures.items ∙ c.loop-left.invariant.1)
