use Rattle.smt_jobs.proofs.DirectReads.{head_there}
use Rattle.smt_jobs.proofs.direct.head_at.Goals as goal

pub returns-clause-read : goal.returns-clause-read
returns-clause-read c = head_there c.args.src.now c.in_ok-behind_open.field-0.now c.name_at.result c.in_ok-behind_open.ensures.found c.name_at.ensures.found
