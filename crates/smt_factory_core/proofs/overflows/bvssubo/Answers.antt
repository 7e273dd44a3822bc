use Rattle.std.proofs.Common.{◌≡◌, rules}
use Rattle.std.specs.Prelude.{◌-ℤ◌}
use Rattle.std.proofs.lemmas.Result.{IfOk-weaker}
use Rattle.law_folding.specs.FoldBits.{folded_overflow}
use Rattle.smt_factory_core.proofs.Folding.{stands_for_overflow}
use Rattle.smt_factory_core.proofs.OutOfRange.{overflow_by}
use Rattle.smt_factory_core.proofs.overflows.bvssubo.Goals as goal
use Rattle.law_terms.specs.Plain.{OverflowOp}
use Rattle.smt_term.specs.View.{plain_term}
use Rattle.law_numbers.specs.BitOperators.{BvssuboOp}

pub returns-clause-folded : goal.returns-clause-folded
returns-clause-folded c = IfOk-weaker c.bvso.result _ (λ r. plain_term r ≡ folded_overflow BvssuboOp (plain_term c.args.t1) (plain_term c.args.t2)) (λ r h. overflow_by _ (OverflowOp BvssuboOp) (λ x y. x -ℤ y) (λ x y z k. search rules) _ _ _ h) c.bvso.ensures.folded

pub returns-clause-refines : goal.returns-clause-refines
returns-clause-refines c = IfOk-weaker c.bvso.result _ _ (λ r h. stands_for_overflow BvssuboOp _ _ _ h) (returns-clause-folded c)
