use Rattle.law_verdicts.proofs.Dialogues as laws
use Rattle.law_verdicts.proofs.laws.dialogue_checks_are_in_turn.Goals as goal

pub returns : goal.returns
returns c = laws.dialogue_checks_are_in_turn
