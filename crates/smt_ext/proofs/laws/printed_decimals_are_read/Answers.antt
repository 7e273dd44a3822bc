use Rattle.smt_ext.proofs.PrintedDecimals.{printed_is_read}
use Rattle.smt_ext.proofs.laws.printed_decimals_are_read.Goals as goal

pub returns : goal.returns
returns c = printed_is_read
