use Rattle.std.specs.Prelude.{◌≤◌}
use Rattle.smt_search.specs.Allowed.{KeepsTruths}
use Rattle.smt_search.specs.Limits.{left}
use Rattle.smt_search.proofs.solving.run.Given as goal

abbrev pub invariant-loop : goal.invariant-loop
invariant-loop l = record { ledger : KeepsTruths l.fn.ledger l.ledger; limit : left l.limit ≤ left l.fn.limit }
