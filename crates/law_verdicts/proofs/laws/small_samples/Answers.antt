use Rattle.law_verdicts.proofs.Sampled as laws
use Rattle.law_verdicts.proofs.laws.small_samples.Goals as goal

pub returns : goal.returns
returns c = laws.small_samples
