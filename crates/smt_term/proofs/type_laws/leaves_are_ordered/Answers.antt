use Rattle.smt_term.proofs.LeafOrders.{entities_are_ordered, entity_ids_are_ordered, entity_types_are_ordered, text_sets_are_ordered}
use Rattle.smt_term.proofs.type_laws.leaves_are_ordered.Goals as goal

pub returns : goal.returns
returns c = record { types = entity_types_are_ordered; ids = entity_ids_are_ordered; entities = entities_are_ordered; sets = text_sets_are_ordered }
