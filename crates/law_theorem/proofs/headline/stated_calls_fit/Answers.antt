use Rattle.law_theorem.proofs.FitKept as laws
use Rattle.law_theorem.proofs.headline.stated_calls_fit.Goals as goal

pub returns : goal.returns
returns c = laws.stated_calls_fit
