use Rattle.smt_blast.proofs.Choosing.{any_of_more}
use Rattle.smt_blast.proofs.gates.Gates.+any_of.Goals as goal

pub returns-in_ok-others-in-Some-clause-bit : goal.returns-in_ok-others-in-Some-clause-bit
returns-in_ok-others-in-Some-clause-bit t c = any_of_more c.or.new.self.nodes c.or.result c.in-Some.ensures.cases.0 c.in_ok-others-in-Some.ensures.grows c.in_ok-others-in-Some.ensures.bit c.or.ensures.bit
