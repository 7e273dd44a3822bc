use Rattle.law_theorem.proofs.FitKept as laws
use Rattle.law_theorem.proofs.fitting.calls_keep_fit.Goals as goal

pub returns : goal.returns
returns c = record { empty = laws.empty_text_fits; one = laws.calls_keep_fit; all = laws.call_lists_keep_fit }
