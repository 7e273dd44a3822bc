use Rattle.law_texts.proofs.Trees as laws
use Rattle.law_texts.proofs.laws.one_reading.Goals as goal

pub returns : goal.returns
returns c = laws.one_reading
