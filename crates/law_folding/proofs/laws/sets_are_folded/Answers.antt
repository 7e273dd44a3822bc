use Rattle.law_folding.proofs.CompositesStand.{stands_set_intersects}
use Rattle.law_folding.proofs.SetsStand.{stands_set_member, stands_set_subset, stands_set_inter, stands_set_is_empty}
use Rattle.law_folding.proofs.laws.sets_are_folded.Goals as goal

pub returns : goal.returns
returns c = record { set_member = stands_set_member; set_subset = stands_set_subset; set_inter = stands_set_inter; set_is_empty = stands_set_is_empty; set_intersects = stands_set_intersects }
