use Rattle.std.proofs.Common.{◌≡◌, drop, map}
use Rattle.smt_term.specs.Entities.{texts_of_entity}
use Rattle.smt_values.specs.Stores.{entity_of}
use Rattle.smt_values.specs.View.{plain_stored}
use Rattle.smt_values.proofs.store.Entities.get.Given as goal

-- what is found in the entities that are left is found in all of them
abbrev pub invariant-loop-entity : goal.invariant-loop-entity
invariant-loop-entity l = entity_of (map plain_stored (drop l.entity-index l.entity-items)) (texts_of_entity l.uid) ≡ entity_of (map plain_stored l.entity-items) (texts_of_entity l.uid)
