use Rattle.std.specs.Prelude.{◌≤◌}
use Rattle.smt_clauses.specs.View.{plain_clauses}
use Rattle.smt_search.proofs.Counting.{ArePassed}
use Rattle.smt_search.specs.Limits.{left}
use Rattle.smt_search.proofs.odometer.try_all.Given as goal

abbrev pub invariant-loop-limit : goal.invariant-loop-limit
invariant-loop-limit l = record { passed : ArePassed (plain_clauses l.formula) l.values; limit : left l.limit ≤ left l.fn.limit }

abbrev pub decreases-loop-limit : goal.decreases-loop-limit
decreases-loop-limit l = left l.limit
