use Rattle.law_verdicts.proofs.Broken as laws
use Rattle.law_verdicts.proofs.laws.broken_answers_are_last.Goals as goal

pub returns : goal.returns
returns c = laws.broken_answers_are_last
