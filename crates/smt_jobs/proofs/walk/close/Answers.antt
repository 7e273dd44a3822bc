use Rattle.smt_jobs.proofs.Walking.{closes, does_not_close}
use Rattle.smt_jobs.proofs.walk.close.Goals as goal

pub returns-in_default-clause-stated : goal.returns-in_default-clause-stated
returns-in_default-clause-stated c depth es end i = does_not_close depth es c.args.src.now end i c.in_default.ensures.none

pub returns-clause-stated : goal.returns-clause-stated
returns-clause-stated c depth es end i = (let n = closes depth es c.args.src.now c.in-Some.after.now end i c.in-Some.ensures.found in (tt, n.0, n.1))
