use Rattle.std.proofs.Common.{refl}
use Rattle.std.proofs.lemmas.Result.{IfOk-weaker}
use Rattle.smt_factory_core.proofs.Values.{bits_folded, computes, stands_for_bits}
use Rattle.smt_factory_core.proofs.bits.bvsmod.Goals as goal
use Rattle.law_numbers.specs.BitOperators.{BvsmodOp}

pub returns-clause-folded : goal.returns-clause-folded
returns-clause-folded c = IfOk-weaker c.bvapp.result _ _ (λ r h. bits_folded _ _ BvsmodOp (λ p q x k. computes BvsmodOp _ p.now q.now x (λ n. refl) k) _ _ _ h) c.bvapp.ensures.folded

pub returns-clause-refines : goal.returns-clause-refines
returns-clause-refines c = IfOk-weaker c.bvapp.result _ _ (λ r h. stands_for_bits BvsmodOp _ _ _ h) (returns-clause-folded c)
