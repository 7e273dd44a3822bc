use Rattle.law_verdicts.proofs.Believing as laws
use Rattle.law_verdicts.proofs.laws.honesty_is_meant.Goals as goal

pub returns : goal.returns
returns c = record { silent = laws.silence_is_honest; any = laws.any_line_is_not_honest }
