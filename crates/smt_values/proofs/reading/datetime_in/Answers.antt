use Rattle.smt_values.proofs.ReadTexts.{datetime_read, no_datetime}
use Rattle.smt_values.proofs.reading.datetime_in.Goals as goal

pub returns-in-Ok : goal.returns-in-Ok
returns-in-Ok c = datetime_read c.args.text.now c.in-Ok.moment.milliseconds c.in-Ok.ensures.value

pub returns : goal.returns
returns c = no_datetime c.args.text.now c.in-Err.ensures.accepts
