use Rattle.law_extensions.proofs.DurationTexts as laws
use Rattle.law_extensions.proofs.laws.durations_are_read.Goals as goal

pub returns : goal.returns
returns c = laws.durations_are_read
