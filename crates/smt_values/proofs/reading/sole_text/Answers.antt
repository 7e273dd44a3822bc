use Rattle.smt_values.proofs.ReadTexts.{more_arguments}
use Rattle.smt_values.proofs.reading.sole_text.Goals as goal

pub returns-in-len2-up : goal.returns-in-len2-up
returns-in-len2-up c = more_arguments c.args.args.now c.in-len2-up.len_at_least
