use Rattle.law_theorem.proofs.Backwards.{sorts_go_back}
use Rattle.law_theorem.proofs.Flat.{fitting_states_are_flat}
use Rattle.law_theorem.proofs.States.{fitting_states_are_sorted}
use Rattle.law_theorem.proofs.well_sorted.states_are_well_written.Goals as goal

pub returns : goal.returns
returns c = record { back = sorts_go_back; sorted = fitting_states_are_sorted; flat = fitting_states_are_flat }
