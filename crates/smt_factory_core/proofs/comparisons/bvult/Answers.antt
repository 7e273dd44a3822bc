use Rattle.std.proofs.lemmas.Result.{IfOk-weaker}
use Rattle.smt_factory_core.proofs.Values.{decides, stands_for_test, test_folded}
use Rattle.smt_factory_core.proofs.comparisons.bvult.Goals as goal
use Rattle.law_numbers.specs.BitOperators.{BvultOp}

pub returns-clause-folded : goal.returns-clause-folded
returns-clause-folded c = IfOk-weaker c.test.result _ _ (λ r h. test_folded _ _ BvultOp (λ p q x k. decides BvultOp _ p.now q.now x k) _ _ _ h) c.test.ensures

pub returns-clause-refines : goal.returns-clause-refines
returns-clause-refines c = IfOk-weaker c.test.result _ _ (λ r h. stands_for_test BvultOp _ _ _ h) (returns-clause-folded c)
