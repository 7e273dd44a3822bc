use Rattle.law_theorem.proofs.SortedExample.{double_negation_is_well_written}
use Rattle.law_theorem.proofs.well_sorted.double_negation_is_well_written.Goals as goal

pub returns : goal.returns
returns c = double_negation_is_well_written
