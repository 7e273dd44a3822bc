use Rattle.law_theorem.proofs.FitKept as laws
use Rattle.law_theorem.proofs.fitting.fitting_texts_represent.Goals as goal

pub returns : goal.returns
returns c = laws.fitting_texts_represent
