use Rattle.std.proofs.Common.{drop, map}
use Rattle.smt_values.specs.TypeView.{plain_cedar}
use Rattle.smt_values.specs.ValueView.{known_field}
use Rattle.smt_term.specs.Entities.{texts_of_entity}
use Rattle.law_cedar.specs.Tables.{tag_entry}
use Rattle.smt_term.specs.Tables.{plain_entry}
use Rattle.smt_values.proofs.Walks.{Walking}
use Rattle.smt_symbolizer.proofs.entries.tag_entries.Given as goal

-- what is made and what is left are all
abbrev pub invariant-loop-name : goal.invariant-loop-name
invariant-loop-name l = Walking (λ p. tag_entry (plain_cedar l.ty) (texts_of_entity l.entity.uid) (known_field p)) (map plain_entry l.pairs.items) (drop l.name-index l.name-items) l.name-items
