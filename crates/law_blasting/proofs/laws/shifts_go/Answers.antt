use Rattle.law_blasting.proofs.Shifts.{shifts_go_down, shifts_go_up}
use Rattle.law_blasting.proofs.Sizes.{shifts_are_small}
use Rattle.law_blasting.proofs.laws.shifts_go.Goals as goal

pub returns : goal.returns
returns c = record { up = shifts_go_up; down = shifts_go_down; small = shifts_are_small }
