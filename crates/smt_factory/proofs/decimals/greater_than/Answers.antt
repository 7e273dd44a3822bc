use Rattle.std.proofs.Common.{rules}
use Rattle.std.proofs.lemmas.Result.{IfOk-weaker}
use Rattle.law_extensions.proofs.FunctionsStand.{functions_stand}
use Rattle.smt_factory.proofs.FunctionsFold.{stands_as}
use Rattle.smt_factory.proofs.decimals.greater_than.Goals as goal
use Rattle.smt_term.specs.View.{plain_term}

pub returns-clause-folded : goal.returns-clause-folded
returns-clause-folded c = search rules

pub returns-clause-refines : goal.returns-clause-refines
returns-clause-refines c = IfOk-weaker c.less_than.result _ _ (λ r h. stands_as (plain_term r) _ _ h (functions_stand.greater_than (plain_term c.args.t1) (plain_term c.args.t2))) (returns-clause-folded c)
