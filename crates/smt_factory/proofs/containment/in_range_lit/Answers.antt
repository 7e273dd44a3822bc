use Rattle.std.proofs.lemmas.Result.{IfOk-weaker}
use Rattle.smt_ext.specs.IpOrder.{plain_range}
use Rattle.smt_ext.specs.IpView.{range_of}
use Rattle.law_extensions.proofs.FunctionsStand.{functions_stand}
use Rattle.smt_factory.proofs.FunctionsFold.{stands_as}
use Rattle.smt_factory.proofs.containment.in_range_lit.Goals as goal
use Rattle.smt_term.specs.View.{plain_term}

pub returns-clause-refines : goal.returns-clause-refines
returns-clause-refines c =
    IfOk-weaker c.folded_in_range_lit.result _ _ (λ r h. stands_as (plain_term r) _ _ h (functions_stand.in_range_lit (plain_term c.args.t) (plain_range (range_of c.args.cidr4)) (plain_range (range_of c.args.cidr6)))) c.folded_in_range_lit.ensures
