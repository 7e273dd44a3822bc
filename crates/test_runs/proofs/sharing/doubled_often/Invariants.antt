use Rattle.test_runs.specs.Sums.{IsSum}
use Rattle.test_runs.proofs.sharing.doubled_often.Given as goal

abbrev pub invariant-loop : goal.invariant-loop
invariant-loop g l = IsSum l.nodes l.sum.ty l.sum.id
