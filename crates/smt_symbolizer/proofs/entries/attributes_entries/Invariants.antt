use Rattle.std.proofs.Common.{drop, map}
use Rattle.smt_values.specs.View.{plain_stored}
use Rattle.smt_values.specs.TypeView.{plain_cedar_attributes}
use Rattle.law_cedar.specs.Tables.{attributes_entry}
use Rattle.smt_term.specs.Tables.{plain_entry}
use Rattle.smt_values.proofs.Walks.{Walking}
use Rattle.smt_symbolizer.proofs.entries.attributes_entries.Given as goal

-- what is made and what is left are all
abbrev pub invariant-loop-entity : goal.invariant-loop-entity
invariant-loop-entity l = Walking (λ entity. attributes_entry (plain_cedar_attributes l.attrs) (plain_stored entity.now)) (map plain_entry l.pairs.items) (drop l.entity-index l.stored) l.stored
