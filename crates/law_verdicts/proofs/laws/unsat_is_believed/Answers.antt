use Rattle.law_verdicts.proofs.Believing as laws
use Rattle.law_verdicts.proofs.laws.unsat_is_believed.Goals as goal

pub returns : goal.returns
returns c = record { logic = laws.logic_is_blank; believed = laws.unsat_is_believed }
