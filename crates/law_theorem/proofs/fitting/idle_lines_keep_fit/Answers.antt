use Rattle.law_theorem.proofs.FitKept as laws
use Rattle.law_theorem.proofs.fitting.idle_lines_keep_fit.Goals as goal

pub returns : goal.returns
returns c = record { commands = laws.idle_lines_keep_fit; these = laws.these_are_idle; comments = laws.comments_keep_fit }
