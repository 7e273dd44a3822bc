use Rattle.std.proofs.Common.{rules}
use Rattle.std.proofs.lemmas.Result.{IfOk-weaker}
use Rattle.law_extensions.proofs.FunctionsStand.{functions_stand}
use Rattle.law_extensions.proofs.OfAnswers.{answers_have_values}
use Rattle.smt_factory.proofs.FunctionsFold.{stands_as}
use Rattle.smt_factory.proofs.times.to_date.Goals as goal
use Rattle.smt_term.specs.View.{plain_term}

pub returns-clause-folded : goal.returns-clause-folded
returns-clause-folded c = search rules

pub returns-clause-refines : goal.returns-clause-refines
returns-clause-refines c = IfOk-weaker c.difference_as.result _ _ (λ r h. stands_as (plain_term r) _ _ h (functions_stand.to_date (plain_term c.args.datetime))) (returns-clause-folded c)

pub returns-clause-value : goal.returns-clause-value
returns-clause-value c = IfOk-weaker c.difference_as.result _ _ (λ r h. answers_have_values.to_date (plain_term c.args.datetime) (plain_term r) h) (returns-clause-refines c)
