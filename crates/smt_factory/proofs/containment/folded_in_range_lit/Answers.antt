use Rattle.std.proofs.lemmas.Result.{IfOk-weaker}
use Rattle.smt_ext.specs.IpOrder.{plain_range}
use Rattle.smt_ext.specs.IpView.{range_of}
use Rattle.smt_factory.proofs.FunctionsFold.{literal_folds}
use Rattle.smt_factory.proofs.containment.folded_in_range_lit.Goals as goal
use Rattle.smt_term.specs.View.{plain_term}

pub returns : goal.returns
returns c =
    IfOk-weaker c.ite.result _ _
    (λ r h. literal_folds (plain_term c.args.t.now) (plain_range (range_of c.args.cidr4)) (plain_range (range_of c.args.cidr6)) (plain_term c.in_ok-is_v4.is_v4) (plain_term c.in_ok-in_v4.in_v4) (plain_term c.in_ok-in_v6.in_v6) (plain_term r)
    c.in_ok-is_v4.ensures c.in_ok-in_v4.ensures c.in_ok-in_v6.ensures h)
    c.ite.ensures.folded
