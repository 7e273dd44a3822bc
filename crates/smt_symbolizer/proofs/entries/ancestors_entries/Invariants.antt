use Rattle.std.proofs.Common.{◌≡◌, ◌++◌, drop, map}
use Rattle.smt_values.specs.View.{plain_stored}
use Rattle.smt_term.specs.Entities.{bytes_of_type}
use Rattle.law_cedar.specs.Tables.{ancestors_entry}
use Rattle.smt_term.specs.Tables.{plain_entry}
use Rattle.smt_symbolizer.proofs.entries.ancestors_entries.Given as goal

-- what is made and what there is of those that are left is what there is of all
abbrev pub invariant-loop-entity : goal.invariant-loop-entity
invariant-loop-entity l = map plain_entry l.pairs.items ++ map (ancestors_entry (bytes_of_type l.kind)) (map (λ entity. plain_stored entity.now) (drop l.entity-index l.stored)) ≡ map (ancestors_entry (bytes_of_type l.kind)) (map (λ entity. plain_stored entity.now) l.stored)
