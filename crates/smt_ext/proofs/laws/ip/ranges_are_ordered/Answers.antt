use Rattle.smt_ext.proofs.IpSame.{same_net}
use Rattle.smt_ext.proofs.laws.ip.ranges_are_ordered.Goals as goal

pub returns-clause-one : goal.returns-clause-one
returns-clause-one c = same_net
