use Rattle.law_theorem.proofs.Models as laws
use Rattle.law_theorem.proofs.headline.reached_have_texts.Goals as goal

pub returns : goal.returns
returns c = laws.reached_have_texts
