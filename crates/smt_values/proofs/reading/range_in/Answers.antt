use Rattle.smt_values.proofs.ReadTexts.{range_read, no_range}
use Rattle.smt_values.proofs.reading.range_in.Goals as goal

pub returns-in-Ok : goal.returns-in-Ok
returns-in-Ok c = range_read c.args.text.now c.in-Ok.value c.in-Ok.ensures.value

pub returns : goal.returns
returns c = no_range c.args.text.now c.in-Err.field-0 c.in-Err.ensures.refused
