use Rattle.smt_job_terms.proofs.ExtensionsRead.{datetime_read, no_datetime}
use Rattle.smt_job_terms.proofs.extension.datetime_in.Goals as goal

pub returns-in-Ok : goal.returns-in-Ok
returns-in-Ok c = datetime_read c.args.text.now c.in-Ok.value c.in-Ok.ensures.value

pub returns : goal.returns
returns c = no_datetime c.args.text.now c.in-Err.ensures.accepts
