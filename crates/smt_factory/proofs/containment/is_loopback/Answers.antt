use Rattle.std.proofs.lemmas.Result.{IfOk-weaker}
use Rattle.smt_ext.specs.IpView.{range_of}
use Rattle.law_extensions.proofs.FunctionsStand.{functions_stand}
use Rattle.law_extensions.proofs.OfAnswers.{answers_have_values}
use Rattle.smt_factory.proofs.FunctionsFold.{loopback_folds, stands_as}
use Rattle.smt_factory.proofs.containment.is_loopback.Goals as goal
use Rattle.smt_term.specs.View.{plain_term}

pub returns-clause-folded : goal.returns-clause-folded
returns-clause-folded c =
    IfOk-weaker c.in_range_lit.result _ _ (λ r h. loopback_folds (plain_term c.args.t) (plain_term r) (range_of c.loop_back_cidr_v4.result) (range_of c.loop_back_cidr_v6.result) c.loop_back_cidr_v4.ensures c.loop_back_cidr_v6.ensures h) c.in_range_lit.ensures.folded

pub returns-clause-refines : goal.returns-clause-refines
returns-clause-refines c = IfOk-weaker c.in_range_lit.result _ _ (λ r h. stands_as (plain_term r) _ _ h (functions_stand.is_loopback (plain_term c.args.t))) (returns-clause-folded c)

pub returns-clause-value : goal.returns-clause-value
returns-clause-value c = IfOk-weaker c.in_range_lit.result _ _ (λ r h. answers_have_values.is_loopback (plain_term c.args.t) (plain_term r) h) (returns-clause-refines c)
