use Rattle.law_extensions.proofs.RangeTexts as laws
use Rattle.law_extensions.proofs.laws.ranges_are_read.Goals as goal

pub returns : goal.returns
returns c = laws.ranges_are_read
