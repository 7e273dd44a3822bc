use Rattle.std.proofs.Common.{◌≡◌}
use Rattle.smt_values.proofs.KeyPlaces.{GoesBehind}
use Rattle.smt_values.proofs.placing.place_of.Given as goal

-- a pair of the key goes behind those so far
abbrev pub invariant-loop-item : goal.invariant-loop-item
invariant-loop-item g l = (l.place ≡ l.item-index) × GoesBehind g.K.Ord.cmp l.key l.items l.item-index
