use Rattle.law_scripts.proofs.Quotes as laws
use Rattle.law_scripts.proofs.scripts.quoted_texts_are_read.Goals as goal

pub returns : goal.returns
returns c = record { texts = laws.texts_write; patterns = laws.patterns_write }
