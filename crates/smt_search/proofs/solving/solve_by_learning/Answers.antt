use Rattle.std.proofs.Common.{◌≡◌}
use Rattle.std.specs.Prelude.{false, true}
use Rattle.smt_search.proofs.solving.solve_by_learning.Goals as goal

pub returns-then-is_refuted-clause-right : goal.returns-then-is_refuted-clause-right
returns-then-is_refuted-clause-right c v s =
    let e : c.is_refuted.result ≡ false = c.is_refuted.ensures v (c.in_ok-last.ensures.ledger v (c.in_ok-start.ensures v (c.in_ok-ledger.ensures v s))) in
    let t : c.is_refuted.result ≡ true = c.if-is_refuted.true in
    cc
