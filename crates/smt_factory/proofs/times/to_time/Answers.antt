use Rattle.std.proofs.lemmas.Result.{IfOk-weaker}
use Rattle.law_extensions.proofs.FunctionsStand.{functions_stand}
use Rattle.law_extensions.proofs.OfAnswers.{answers_have_values}
use Rattle.smt_factory.proofs.FunctionsFold.{stands_as}
use Rattle.smt_factory.proofs.times.to_time.Goals as goal
use Rattle.smt_term.specs.View.{plain_term}

pub returns-clause-refines : goal.returns-clause-refines
returns-clause-refines c = IfOk-weaker c.folded_to_time.result _ _ (λ r h. stands_as (plain_term r) _ _ h (functions_stand.to_time (plain_term c.args.datetime))) c.folded_to_time.ensures

pub returns-clause-value : goal.returns-clause-value
returns-clause-value c = IfOk-weaker c.folded_to_time.result _ _ (λ r h. answers_have_values.to_time (plain_term c.args.datetime) (plain_term r) h) (returns-clause-refines c)
