use Rattle.std.proofs.Common.{◌≡◌, map, take}
use Rattle.smt_term.specs.Functions.{plain_unary}
use Rattle.smt_symbolizer.specs.Named.{said}
use Rattle.smt_symbolizer.proofs.entity_data.ByType+UnaryFunction.share.Given as goal

-- what is made says what those so far say
abbrev pub invariant-loop-kind : goal.invariant-loop-kind
invariant-loop-kind l = map (said plain_unary) l.pairs.items ≡ map (said plain_unary) (take l.kind-index l.kind-items)
