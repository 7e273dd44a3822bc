use Rattle.std.proofs.Common.{drop, map}
use Rattle.smt_values.specs.View.{entry_named, plain_stored}
use Rattle.smt_term.specs.Enums.{enums_of}
use Rattle.law_cedar.specs.Symbolized.{typed_data}
use Rattle.smt_symbolizer.specs.Named.{said}
use Rattle.smt_symbolizer.specs.EntityView.{plain_data}
use Rattle.smt_values.specs.DefaultTerm.{default_term}
use Rattle.smt_values.proofs.Walks.{Walking}
use Rattle.smt_symbolizer.proofs.entities.all_typed_data.Given as goal

-- what is made and what is left are all
abbrev pub invariant-loop-entry : goal.invariant-loop-entry
invariant-loop-entry l = Walking (λ entry. typed_data (default_term (enums_of l.enums)) (map plain_stored l.entities) (entry_named entry.now)) (map (said plain_data) l.pairs.items) (drop l.entry-index l.types) l.types
