use Rattle.std.proofs.Common.{◌≡◌, ◌++◌, drop, map}
use Rattle.smt_values.specs.View.{plain_stored}
use Rattle.smt_term.specs.Entities.{bytes_of_type}
use Rattle.law_cedar.specs.Tables.{stored_of}
use Rattle.smt_symbolizer.proofs.entities.stored_of.Given as goal

-- what is made and what there is of those that are left is what there is of all
abbrev pub invariant-loop-entity : goal.invariant-loop-entity
invariant-loop-entity l = map (λ entity. plain_stored entity.now) l.found.items ++ stored_of (bytes_of_type l.ety) (map plain_stored (drop l.entity-index l.entities)) ≡ stored_of (bytes_of_type l.ety) (map plain_stored l.entities)
