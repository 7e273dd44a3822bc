use Rattle.smt_ext.proofs.Midnights.{last_midnight}
use Rattle.smt_ext.proofs.laws.days_start_at_midnight.Goals as goal

pub returns : goal.returns
returns c = last_midnight
