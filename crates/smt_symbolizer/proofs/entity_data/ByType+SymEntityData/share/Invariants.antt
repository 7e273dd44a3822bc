use Rattle.std.proofs.Common.{◌≡◌, map, take}
use Rattle.smt_symbolizer.specs.EntityView.{plain_data}
use Rattle.smt_symbolizer.specs.Named.{said}
use Rattle.smt_symbolizer.proofs.entity_data.ByType+SymEntityData.share.Given as goal

-- what is made says what those so far say
abbrev pub invariant-loop-ety : goal.invariant-loop-ety
invariant-loop-ety l = map (said plain_data) l.pairs.items ≡ map (said plain_data) (take l.ety-index l.ety-items)
