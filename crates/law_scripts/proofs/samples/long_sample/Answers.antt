use Rattle.law_scripts.proofs.LongSampled as laws
use Rattle.law_scripts.proofs.samples.long_sample.Goals as goal

pub returns : goal.returns
returns c = laws.long_sample_is_script
