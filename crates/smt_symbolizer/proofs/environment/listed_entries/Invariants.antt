use Rattle.std.proofs.Common.{◌≡◌, ◌++◌, drop, map}
use Rattle.smt_term.specs.TextSets.{texts_of}
use Rattle.smt_symbolizer.specs.Listed.{listed_in}
use Rattle.smt_symbolizer.specs.Named.{said}
use Rattle.smt_symbolizer.specs.EntityView.{plain_data}
use Rattle.smt_symbolizer.proofs.environment.listed_entries.Given as goal

-- what is made and what there is of those that are left is what there is of all
abbrev pub invariant-loop-ety : goal.invariant-loop-ety
invariant-loop-ety l = map (said texts_of) l.found.items ++ listed_in (map (said plain_data) (drop l.ety-index l.entities)) ≡ listed_in (map (said plain_data) l.entities)
