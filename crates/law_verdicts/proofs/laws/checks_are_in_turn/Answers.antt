use Rattle.law_verdicts.proofs.Asking as laws
use Rattle.law_verdicts.proofs.laws.checks_are_in_turn.Goals as goal

pub returns : goal.returns
returns c = laws.checks_are_in_turn
