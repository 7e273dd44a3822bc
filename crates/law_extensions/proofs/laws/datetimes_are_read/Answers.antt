use Rattle.law_extensions.proofs.DatetimeTexts as laws
use Rattle.law_extensions.proofs.laws.datetimes_are_read.Goals as goal

pub returns : goal.returns
returns c = laws.datetimes_are_read
