use Rattle.smt_job_terms.proofs.ExtensionsRead.{duration_read, no_duration}
use Rattle.smt_job_terms.proofs.extension.duration_in.Goals as goal

pub returns-in-Ok : goal.returns-in-Ok
returns-in-Ok c = duration_read c.args.text.now c.in-Ok.value c.in-Ok.ensures.value

pub returns : goal.returns
returns c = no_duration c.args.text.now c.in-Err.ensures.accepts
