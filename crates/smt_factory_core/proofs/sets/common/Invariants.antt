use Rattle.std.proofs.Common.{◌≡◌, ◌++◌, drop, map}
use Rattle.std.specs.List.{filter}
use Rattle.law_folding.specs.FoldSets.{is_among}
use Rattle.smt_term.specs.View.{plain_term}
use Rattle.smt_factory_core.proofs.sets.common.Given as goal

-- what is kept, and what there is to keep among those that are left, is all that there is to keep
abbrev pub invariant-loop-t : goal.invariant-loop-t
invariant-loop-t l = map plain_term l.kept.items ++ filter (is_among (map plain_term l.ts2)) (map plain_term (drop l.t-index l.ts1)) ≡ filter (is_among (map plain_term l.ts2)) (map plain_term l.ts1)
