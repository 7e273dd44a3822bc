use Rattle.law_texts.proofs.QuotedTexts as laws
use Rattle.law_texts.proofs.laws.quoted_texts_are_read.Goals as goal

pub returns : goal.returns
returns c = laws.quoted_texts_are_read
