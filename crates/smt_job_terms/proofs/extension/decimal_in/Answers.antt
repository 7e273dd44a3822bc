use Rattle.smt_job_terms.proofs.ExtensionsRead.{decimal_read, no_decimal}
use Rattle.smt_job_terms.proofs.extension.decimal_in.Goals as goal

pub returns-in-Ok : goal.returns-in-Ok
returns-in-Ok c = decimal_read c.args.text.now c.in-Ok.value c.in-Ok.ensures.value

pub returns : goal.returns
returns c = no_decimal c.args.text.now c.in-Err.ensures.accepts
