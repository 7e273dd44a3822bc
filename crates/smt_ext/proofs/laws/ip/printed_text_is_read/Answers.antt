use Rattle.smt_ext.proofs.IpPrinted.{net_is_read}
use Rattle.smt_ext.proofs.laws.ip.printed_text_is_read.Goals as goal

pub returns : goal.returns
returns c = net_is_read
