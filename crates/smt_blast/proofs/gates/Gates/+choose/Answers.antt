use Rattle.smt_blast.proofs.Choosing.{chose_further}
use Rattle.smt_blast.proofs.gates.Gates.+choose.Goals as goal

pub returns-clause-bits : goal.returns-clause-bits
returns-clause-bits t c =
    chose_further c.choose.new.self.nodes c.choose.new.chosen.items c.choose.result c.in-Some.ensures.cases.0 c.in-Some-split_first.ensures.cases.0 c.in_ok-one.ensures.grows c.in_ok-one.ensures.bit c.in_ok-push.ensures.items c.choose.ensures.bits
