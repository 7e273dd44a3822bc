use Rattle.law_extensions.proofs.DecimalTexts as laws
use Rattle.law_extensions.proofs.laws.decimals_are_read.Goals as goal

pub returns : goal.returns
returns c = laws.decimals_are_read
