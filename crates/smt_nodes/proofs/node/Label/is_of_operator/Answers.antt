use Rattle.smt_nodes.proofs.Matching.{op_is}
use Rattle.smt_nodes.proofs.node.Label.is_of_operator.Goals as goal

pub returns-in-App : goal.returns-in-App
returns-in-App c ts t = op_is c.eq-in-App.result c.args.self.now c.in-App.own c.args.op.now c.in_default.not-Uuf ts t c.eq-in-App.ensures c.in-App.is
