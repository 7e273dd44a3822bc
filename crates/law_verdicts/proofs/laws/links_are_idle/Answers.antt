use Rattle.law_verdicts.proofs.Idle as laws
use Rattle.law_verdicts.proofs.laws.links_are_idle.Goals as goal

pub returns : goal.returns
returns c = record { unused = laws.unused_links_are_idle; turn = laws.idle_checks_are_in_turn }
