use Rattle.law_verdicts.proofs.StreamHonest.{heard_is_honest}
use Rattle.smt_stream.proofs.laws.small_solvers_are_honest.Goals as goal

pub returns : goal.returns
returns c = heard_is_honest
