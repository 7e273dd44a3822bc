use Rattle.smt_values.proofs.PutEntity.{distinct_held}
use Rattle.smt_values.proofs.PutEntry.{ascends_held}
use Rattle.smt_values.proofs.laws.stores_are_distinct.Goals as goal

pub returns-clause-entities : goal.returns-clause-entities
returns-clause-entities c entities = distinct_held entities.items.items entities.distinct

pub returns-clause-entries : goal.returns-clause-entries
returns-clause-entries c entries = ascends_held entries.items.items entries.ascending
