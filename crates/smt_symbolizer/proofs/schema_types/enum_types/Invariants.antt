use Rattle.std.proofs.Common.{◌≡◌, ◌++◌, drop, map}
use Rattle.std.specs.List.{filter_map}
use Rattle.smt_values.specs.View.{entry_named}
use Rattle.smt_term.specs.TextSets.{texts_of}
use Rattle.law_cedar.specs.Symbolized.{enum_entry}
use Rattle.smt_symbolizer.specs.Named.{said}
use Rattle.smt_symbolizer.proofs.schema_types.enum_types.Given as goal

-- what is made and what there is of those that are left is what there is of all
abbrev pub invariant-loop-entry : goal.invariant-loop-entry
invariant-loop-entry l = map (said texts_of) l.found.items ++ filter_map enum_entry (map (λ p. entry_named p.now) (drop l.entry-index l.types)) ≡ filter_map enum_entry (map (λ p. entry_named p.now) l.types)
