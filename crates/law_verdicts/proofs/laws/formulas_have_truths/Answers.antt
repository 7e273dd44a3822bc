use Rattle.law_verdicts.proofs.Truths as laws
use Rattle.law_verdicts.proofs.laws.formulas_have_truths.Goals as goal

pub returns : goal.returns
returns c = laws.formulas_have_truths
