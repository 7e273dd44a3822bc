use Rattle.std.proofs.Common.{◌≡◌, ◌≤◌, ◌++◌}
use Rattle.law_verdicts.specs.TruthRows.{row_truths}
use Rattle.smt_mini.proofs.search.push_row.Given as goal

abbrev pub invariant-loop-left : goal.invariant-loop-left
invariant-loop-left l = (l.left ≤ 6) × (l.chosen.items ++ row_truths l.left l.row ≡ l.initial.chosen.items ++ row_truths l.lanes l.row)

abbrev pub decreases-loop-left : goal.decreases-loop-left
decreases-loop-left l = l.left
