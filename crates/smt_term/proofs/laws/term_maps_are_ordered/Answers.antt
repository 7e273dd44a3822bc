use Rattle.smt_term.proofs.MapOrders.{term_maps_are_ordered}
use Rattle.smt_term.proofs.laws.term_maps_are_ordered.Goals as goal

pub returns : goal.returns
returns c = term_maps_are_ordered
