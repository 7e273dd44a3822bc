use Rattle.smt_review.proofs.Telling.{differences_tell}
use Rattle.smt_review.proofs.laws.differences_tell.Goals as goal

pub returns : goal.returns
returns c = differences_tell
