use Rattle.smt_values.proofs.ReadTexts.{many_arguments, one_argument}
use Rattle.smt_values.proofs.reading.offset_of.Goals as goal

pub returns-in-len1 : goal.returns-in-len1
returns-in-len1 c = one_argument c.args.args.now c.in-len1.len_at_least c.in-len1.len_below

pub returns-in-len3-up : goal.returns-in-len3-up
returns-in-len3-up c = many_arguments c.args.args.now c.in-len3-up.len_at_least
