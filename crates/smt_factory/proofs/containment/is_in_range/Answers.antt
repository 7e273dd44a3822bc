use Rattle.std.proofs.Common.{map}
use Rattle.std.proofs.lemmas.Result.{IfOk-weaker}
use Rattle.law_extensions.proofs.FunctionsStand.{functions_stand}
use Rattle.law_extensions.proofs.OfAnswers.{answers_have_values}
use Rattle.smt_factory.proofs.FunctionsFold.{any_folds, stands_as}
use Rattle.smt_factory.proofs.containment.is_in_range.Goals as goal
use Rattle.smt_term.specs.View.{plain_term}

pub returns-clause-folded : goal.returns-clause-folded
returns-clause-folded c =
    IfOk-weaker c.or.result _ _
    (λ r h. any_folds (plain_term c.args.t) (plain_term c.in_ok-share.field-0) (map plain_term c.args.ts.now) (plain_term c.in_ok-in_v4.in_v4) (plain_term c.in_ok-is_in_v6.field-0) (plain_term r) c.in_ok-share.ensures c.in_ok-in_v4.ensures c.in_ok-is_in_v6.ensures h)
    c.or.ensures.folded

pub returns-clause-refines : goal.returns-clause-refines
returns-clause-refines c = IfOk-weaker c.or.result _ _ (λ r h. stands_as (plain_term r) _ _ h (functions_stand.is_in_range (plain_term c.args.t) (map plain_term c.args.ts.now))) (returns-clause-folded c)

pub returns-clause-value : goal.returns-clause-value
returns-clause-value c = IfOk-weaker c.or.result _ _ (λ r h. answers_have_values.is_in_range (plain_term c.args.t) (map plain_term c.args.ts.now) (plain_term r) h) (returns-clause-refines c)
