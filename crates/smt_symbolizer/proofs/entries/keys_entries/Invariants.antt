use Rattle.std.proofs.Common.{◌≡◌, ◌++◌, drop, map}
use Rattle.smt_values.specs.View.{plain_stored}
use Rattle.law_cedar.specs.Tables.{keys_entry}
use Rattle.smt_term.specs.Tables.{plain_entry}
use Rattle.smt_symbolizer.proofs.entries.keys_entries.Given as goal

-- what is made and what there is of those that are left is what there is of all
abbrev pub invariant-loop-entity : goal.invariant-loop-entity
invariant-loop-entity l = map plain_entry l.pairs.items ++ map keys_entry (map (λ entity. plain_stored entity.now) (drop l.entity-index l.stored)) ≡ map keys_entry (map (λ entity. plain_stored entity.now) l.stored)
