use Rattle.std.proofs.Common.{rules}
use Rattle.smt_jobs.proofs.ExpressedJobs.{more_listed}
use Rattle.smt_jobs.proofs.expressed.nothing_more.Goals as goal

pub returns-else-is_empty : goal.returns-else-is_empty
returns-else-is_empty c = more_listed c.args.items.now (search rules)
