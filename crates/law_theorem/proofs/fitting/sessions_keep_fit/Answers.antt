use Rattle.law_theorem.proofs.Sessions as laws
use Rattle.law_theorem.proofs.fitting.sessions_keep_fit.Goals as goal

pub returns : goal.returns
returns c = laws.sessions_keep_fit
