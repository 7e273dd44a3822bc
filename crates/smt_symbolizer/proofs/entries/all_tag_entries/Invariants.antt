use Rattle.std.proofs.Common.{drop, map}
use Rattle.smt_values.specs.View.{plain_stored}
use Rattle.smt_values.specs.TypeView.{plain_cedar}
use Rattle.law_cedar.specs.Tables.{tag_entries}
use Rattle.smt_symbolizer.proofs.Walked.{Joining}
use Rattle.smt_term.specs.Tables.{plain_entry}
use Rattle.smt_symbolizer.proofs.entries.all_tag_entries.Given as goal

-- what is made and what is left are all
abbrev pub invariant-loop-entity : goal.invariant-loop-entity
invariant-loop-entity l = Joining (λ entity. tag_entries (plain_cedar l.ty) (plain_stored entity.now)) (map plain_entry l.pairs.items) (drop l.entity-index l.stored) l.stored
