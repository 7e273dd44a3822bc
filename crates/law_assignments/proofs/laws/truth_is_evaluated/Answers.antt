use Rattle.law_assignments.proofs.Holding as laws
use Rattle.law_assignments.proofs.laws.truth_is_evaluated.Goals as goal

pub returns : goal.returns
returns c = record { term = laws.truth_is_evaluated; all = laws.true_in_all_is_evaluated; written = laws.truth_of_the_built }
