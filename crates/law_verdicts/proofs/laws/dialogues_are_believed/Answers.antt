use Rattle.law_verdicts.proofs.Dialogues as laws
use Rattle.law_verdicts.proofs.laws.dialogues_are_believed.Goals as goal

pub returns : goal.returns
returns c = laws.dialogues_are_believed
