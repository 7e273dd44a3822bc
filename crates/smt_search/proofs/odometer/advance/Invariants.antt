use Rattle.std.proofs.Common.{◌≡◌, ◌+◌, ◌^◌}
use Rattle.smt_search.specs.Counted.{number}
use Rattle.smt_search.proofs.odometer.advance.Given as goal

abbrev pub invariant-loop-value : goal.invariant-loop-value
invariant-loop-value l = number l.values + 2 ^ l.value-index ≡ number l.fn.values + 1
