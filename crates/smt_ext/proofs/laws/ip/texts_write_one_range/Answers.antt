use Rattle.smt_ext.proofs.IpSplits.{one_range}
use Rattle.smt_ext.proofs.laws.ip.texts_write_one_range.Goals as goal

pub returns : goal.returns
returns c = one_range
