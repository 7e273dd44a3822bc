use Rattle.smt_term.proofs.TypeMapOrders.{type_maps_are_ordered}
use Rattle.smt_term.proofs.type_laws.type_maps_are_ordered.Goals as goal

pub returns : goal.returns
returns c = type_maps_are_ordered
