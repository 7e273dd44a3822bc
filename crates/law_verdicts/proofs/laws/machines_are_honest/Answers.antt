use Rattle.law_verdicts.proofs.Honest as laws
use Rattle.law_verdicts.proofs.laws.machines_are_honest.Goals as goal

pub returns : goal.returns
returns c = record { put = laws.machines_may_put; honest = laws.machines_are_honest }
